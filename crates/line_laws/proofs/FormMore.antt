-- The bytes up to which a line follows a form are a front of a line of that form.
use Rattle.std.proofs.Common.{◌≡◌, ℕ, zero, suc, ◌+◌, ◌<◌, ◌≤◌, ◌==◌, ◌&&◌, Bool, true, false, cond, nat_le, min, map, List, [], ◌∷◌, ◌++◌, length, length-take, take, drop, codes, decimal, refl, sym, ap, ◌∙◌, subst, inl, inr, Some, arith, append_assoc}
use Rattle.std.specs.List.{prefix_len}
use Rattle.std.specs.Char.{is_ascii_digit}
use Rattle.std.specs.Str.Parse.{digits_value}
use Rattle.std.proofs.lemmas.Bool.{and_parts, eqb-true, cases_lt}
use Rattle.std.proofs.lemmas.List.{take-append-drop, take-take, drop-take, take_all, length-map}
use Rattle.std.proofs.lemmas.List.Sums.{prefix_len-le-length}
use Rattle.text_rules.specs.FieldBytes.{pick}
use Rattle.text_rules.specs.ScheduleLine.{flag_text}
use Rattle.text_rules.specs.LineForms.{Piece, Word, Number, Bytes, Flags, Owners, Reach, shared, shared_with, longest, is_numeral as is_form_numeral, reach_of, reach_of_number, reach_of_bytes, reach_of_flags, reach_of_more, reach_of_owners, and_then, and_then_if}
use Rattle.text_rules.specs.ReadLine.{◌>>=◌, where_true, after_word, number_at, is_numeral, bytes_of}
use Rattle.text_rules.specs.ReadEvent.{flags_at, is_flag, more_owners, owners_of}
use Rattle.line_laws.proofs.Digits.{digits_at_front, take_digits}
use Rattle.line_laws.proofs.Printed.{numeral_back}
use Rattle.line_laws.proofs.Numerals.{same_numeral, longest-le, longest_numeral}
use Rattle.line_laws.proofs.Words.{after_word_is}
use Rattle.line_laws.proofs.FieldByField.{reads, if_read, if_rest, is_read, IsForm, EndsDigits, no_digit}
use Rattle.line_laws.proofs.PieceByPiece.{digits_in, reach_to, no_reach}
use Rattle.line_laws.proofs.Steps.{comma_step, more_none, no_comma}
use Rattle.line_laws.proofs.OwnersRead.{reads_more, owner_read, comma_read}
use Rattle.line_laws.proofs.FieldsBack.{Ends, number_forth}
use Rattle.line_laws.proofs.ListsBack.{flag_back, flags_forth}
use Rattle.line_laws.proofs.BytesMore.{IsBegun, bytes_more}

-- what is read ends the number before it
abbrev pub AllEnd : (List ℕ → Bool) → Type 0
AllEnd next = (rest : List ℕ) → next rest ≡ true → Ends rest

form_ends : (ps : List Piece) → EndsDigits ps → AllEnd (reads ps)
form_ends ps ends [] h = omega arith
form_ends ps ends (b ∷ rest) h = elim (cases_lt b 48) [
  | inl below ↦ below
  | inr digit ↦ absurd (let bad : true ≡ false = sym h ∙ no_digit ps b rest ends digit in cc)
]

take_sum : (a b : ℕ) (xs : List ℕ) → take (a + b) xs ≡ take a xs ++ take b (drop a xs)
take_sum a b xs =
    sym (take-append-drop a (take (a + b) xs))
    ∙ (ap (λ l. l ++ drop a (take (a + b) xs)) (take-take a (a + b) xs (omega arith)) ∙ ap (λ l. take a xs ++ l) (drop-take a b xs))

-- a piece, whole or not, and the pieces behind it
piece_by : (r : Reach) (further : ℕ → Reach) (xs : List ℕ) (all next : List ℕ → Bool) (t : Bool)
    → (t ≡ true → (rest : List ℕ) → next rest ≡ true → all (take r.count xs ++ rest) ≡ true)
    → (t ≡ false → (rest : List ℕ) → next rest ≡ true → IsBegun all (take r.count xs))
    → IsBegun next (take (further r.count).count (drop r.count xs)) → (rest : List ℕ) → next rest ≡ true
    → IsBegun all (take (and_then_if t r further).count xs)
piece_by r further xs all next true whole broken go some ok =
    let n : ℕ = (further r.count).count in
    let text : take (r.count + n) xs ++ go.0 ≡ take r.count xs ++ (take n (drop r.count xs) ++ go.0) =
    ap (λ l. l ++ go.0) (take_sum r.count n xs) ∙ append_assoc (take r.count xs) (take n (drop r.count xs)) go.0 in
    (go.0, ap all text ∙ whole refl (take n (drop r.count xs) ++ go.0) go.1)
piece_by r further xs all next false whole broken go some ok = broken refl some ok

-- a number
number_whole : (low high : ℕ) (xs : List ℕ) (next : List ℕ → Bool) (m : ℕ) → high < 10000000000 → AllEnd next → m ≤ digits_in xs
    → (1 ≤ m → is_form_numeral high (take m xs) ≡ true) → 1 ≤ m → low ≤ digits_value 10 (take m xs) → (rest : List ℕ) → next rest ≡ true
    → if_read (number_at low high (take m xs ++ rest)) next ≡ true
number_whole low high xs next m small ends most good some least rest ok =
    let within = prefix_len-le-length is_ascii_digit xs in
    let len : length (take m xs) ≡ m = length-take m xs ∙ omega (arith, most, within) in
    let all = take_digits xs (digits_in xs) m most (digits_at_front xs) in
    let numeral = sym (same_numeral (take m xs) high all small (omega (arith, len, some))) ∙ good some in
    let parts = and_parts (is_numeral (take m xs)) (nat_le (digits_value 10 (take m xs)) high) numeral in
    let back : decimal (digits_value 10 (take m xs)) ≡ take m xs = numeral_back (take m xs) all parts.0 in
    let below : digits_value 10 (take m xs) ≤ high = grind (arith, parts.1) in
    ap (λ l. if_read (number_at low high (l ++ rest)) next) (sym back)
    ∙ (ap (λ o. if_read o next) (number_forth low high (digits_value 10 (take m xs)) rest least below small (ends rest ok)) ∙ ok)

number_none : (low high : ℕ) (next : List ℕ → Bool) → low ≤ high → high < 10000000000 → AllEnd next → (rest : List ℕ) → next rest ≡ true
    → (more : List ℕ) × (if_read (number_at low high more) next ≡ true)
number_none low high next le small ends rest ok =
    (decimal low ++ rest, ap (λ o. if_read o next) (number_forth low high low rest (omega arith) le small (ends rest ok)) ∙ ok)

reach_case : (low high : ℕ) (xs : List ℕ) (next : List ℕ → Bool) (further : ℕ → Reach) (m : ℕ) → low ≤ high → high < 10000000000 → AllEnd next → m ≤ digits_in xs
    → (1 ≤ m → is_form_numeral high (take m xs) ≡ true) → (rest : List ℕ) → next rest ≡ true
    → ((c : ℕ) → IsBegun next (take (further c).count (drop c xs)))
    → IsBegun (λ bs. if_read (number_at low high bs) next) (take (and_then (reach_to low xs m) further).count xs)
reach_case low high xs next further m le small ends most good rest ok go =
    low_by (nat_le low (digits_value 10 (take m xs))) refl
  where
    some_by : (t : Bool) → nat_le 1 m ≡ t → nat_le low (digits_value 10 (take m xs)) ≡ true
        → IsBegun (λ bs. if_read (number_at low high bs) next) (take (and_then_if t (record { count = m; is_whole = t }) further).count xs)
    some_by true e least =
        piece_by (record { count = m; is_whole = true }) further xs (λ bs. if_read (number_at low high bs) next) next true
        (λ t more yes. number_whole low high xs next m small ends most good (grind (arith, e)) (grind (arith, least)) more yes)
        (λ bad more yes. absurd (cc)) (go m) rest ok
    some_by false e least =
        let none = number_none low high next le small ends rest ok in
        let zero_is : m ≡ 0 = grind (arith, e) in
        (none.0, ap (λ n. if_read (number_at low high (take n xs ++ none.0)) next) zero_is ∙ none.1)

    low_by : (t : Bool) → nat_le low (digits_value 10 (take m xs)) ≡ t
        → IsBegun (λ bs. if_read (number_at low high bs) next) (take (and_then (pick t (record { count = m; is_whole = nat_le 1 m }) no_reach) further).count xs)
    low_by true e = some_by (nat_le 1 m) refl e
    low_by false e = number_none low high next le small ends rest ok

number_more : (low high : ℕ) (xs : List ℕ) (next : List ℕ → Bool) (further : ℕ → Reach) → low ≤ high → high < 10000000000 → AllEnd next → (rest : List ℕ) → next rest ≡ true
    → ((c : ℕ) → IsBegun next (take (further c).count (drop c xs)))
    → IsBegun (λ bs. if_read (number_at low high bs) next) (take (and_then (reach_of_number low high xs) further).count xs)
number_more low high xs next further le small ends rest ok go =
    let most = longest-le high (min 20 (digits_in xs)) xs in
    reach_case low high xs next further (longest high (min 20 (digits_in xs)) xs) le small ends (omega (arith, most)) (λ some. longest_numeral high (min 20 (digits_in xs)) xs some) rest ok go

-- owners
more_end : (n : ℕ) → AllEnd (reads_more n)
unfolding more_owners
more_end n [] h = omega arith
more_end zero (b ∷ rest) h = absurd (let bad : false ≡ true = h in cc)
more_end (suc n) (b ∷ rest) h = by (b == 44) refl h
  where
    by : (t : Bool) → (b == 44) ≡ t
        → is_read (where_true (t && true) rest >>= (λ rest. number_at 0 15 rest >>= (λ owner. more_owners n owner.1 >>= (λ owners. Some (owner.0 ∷ owners))))) ≡ true → b < 48
    by true e f = grind (arith, e)
    by false e f = absurd (let bad : false ≡ true = f in cc)

nothing_more : (n : ℕ) → reads_more n [] ≡ true
unfolding more_owners
nothing_more n = refl

comma_more : (n : ℕ) (xs : List ℕ) → IsBegun (λ bs. if_read (number_at 0 15 bs) (reads_more n)) (take (and_then (reach_of_number 0 15 xs) (λ m. reach_of_more n (drop (1 + m) (44 ∷ xs)))).count xs)
    → IsBegun (reads_more (suc n)) (take (reach_of_more (suc n) (44 ∷ xs)).count (44 ∷ xs))
comma_more n xs h =
    let c : ℕ = (and_then (reach_of_number 0 15 xs) (λ m. reach_of_more n (drop (1 + m) (44 ∷ xs)))).count in
    let count : (reach_of_more (suc n) (44 ∷ xs)).count ≡ suc c = ap (λ (r : Reach). r.count) (comma_step n xs) ∙ omega arith in
    (h.0, ap (λ k. reads_more (suc n) (take k (44 ∷ xs) ++ h.0)) count ∙ (comma_read n (take c xs ++ h.0) ∙ h.1))

begun_at : (n : ℕ) (xs : List ℕ) (k : ℕ) → k ≡ 0 → IsBegun (reads_more n) (take k xs)
begun_at n xs k e = subst (λ i. IsBegun (reads_more n) (take i xs)) (sym e) ([], nothing_more n)

more_more : (n : ℕ) (xs : List ℕ) → IsBegun (reads_more n) (take (reach_of_more n xs).count xs)
more_more zero xs = ([], nothing_more 0)
more_more (suc n) [] = ([], nothing_more (suc n))
more_more (suc n) (x ∷ xs) =
    by (x == 44) refl
    (number_more 0 15 xs (reads_more n) (λ m. reach_of_more n (drop (1 + m) (44 ∷ xs))) (omega arith) (omega arith) (more_end n) [] (nothing_more n)
    (λ c. let at : suc c ≡ 1 + c = omega arith in subst (λ i. IsBegun (reads_more n) (take (reach_of_more n (drop i (44 ∷ xs))).count (drop c xs))) at (more_more n (drop c xs))))
  where
    by : (t : Bool) → (x == 44) ≡ t
        → IsBegun (λ bs. if_read (number_at 0 15 bs) (reads_more n)) (take (and_then (reach_of_number 0 15 xs) (λ m. reach_of_more n (drop (1 + m) (44 ∷ xs)))).count xs)
        → IsBegun (reads_more (suc n)) (take (reach_of_more (suc n) (x ∷ xs)).count (x ∷ xs))
    by true e h = subst (λ b. IsBegun (reads_more (suc n)) (take (reach_of_more (suc n) (b ∷ xs)).count (b ∷ xs))) (sym (eqb-true x 44 e)) (comma_more n xs h)
    by false e h =
        begun_at (suc n) (x ∷ xs) (reach_of_more (suc n) (x ∷ xs)).count
        (ap (λ (r : Reach). r.count) (more_none (suc n) (x ∷ xs) (no_comma (x ∷ xs) (λ some. e))))

owners_more : (xs : List ℕ) → IsBegun (λ bs. is_read (owners_of bs)) (take (reach_of_owners xs).count xs)
unfolding owners_of
owners_more xs =
    let h = number_more 0 15 xs (reads_more 15) (λ n. reach_of_more 15 (drop n xs)) (omega arith) (omega arith) (more_end 15) [] (nothing_more 15) (λ c. more_more 15 (drop c xs)) in
    (h.0, owner_read 15 (number_at 0 15 (take (reach_of_owners xs).count xs ++ h.0)) ∙ h.1)

-- flags
flags_front : (n : ℕ) (xs : List ℕ) → n ≤ prefix_len is_flag xs → map flag_text (map (λ b. b == 49) (take n xs)) ≡ take n xs
flags_front zero xs le = refl
flags_front (suc n) [] le = refl
flags_front (suc n) (x ∷ xs) le = by (is_flag x) refl le (λ less. flags_front n xs less)
  where
    by : (t : Bool) → is_flag x ≡ t → suc n ≤ cond t (1 + prefix_len is_flag xs) 0 → (n ≤ prefix_len is_flag xs → map flag_text (map (λ b. b == 49) (take n xs)) ≡ take n xs)
        → map flag_text (map (λ b. b == 49) (take (suc n) (x ∷ xs))) ≡ take (suc n) (x ∷ xs)
    by true e less go = let first = flag_back x e in let rest = go (omega (arith, less)) in (λ i. first i ∷ rest i)
    by false e less go = absurd (omega (arith, less))

flags_whole : (xs : List ℕ) (next : List ℕ → Bool) → AllEnd next → 1 ≤ min 16 (prefix_len is_flag xs) → (rest : List ℕ) → next rest ≡ true
    → if_read (flags_at (take (min 16 (prefix_len is_flag xs)) xs ++ rest)) next ≡ true
flags_whole xs next ends some rest ok =
    let n : ℕ = min 16 (prefix_len is_flag xs) in
    let fs : List Bool = map (λ b. b == 49) (take n xs) in
    let within = prefix_len-le-length is_flag xs in
    let len : length fs ≡ n = length-map (take n xs) (λ b. b == 49) ∙ (length-take n xs ∙ omega (arith, within)) in
    ap (λ l. if_read (flags_at (l ++ rest)) next) (sym (flags_front n xs (omega arith)))
    ∙ (ap (λ o. if_read o next) (flags_forth fs rest (omega (arith, len, some)) (omega (arith, len)) (ends rest ok)) ∙ ok)

flags_more : (xs : List ℕ) (next : List ℕ → Bool) (further : ℕ → Reach) → AllEnd next → (rest : List ℕ) → next rest ≡ true
    → ((c : ℕ) → IsBegun next (take (further c).count (drop c xs)))
    → IsBegun (λ bs. if_read (flags_at bs) next) (take (and_then (reach_of_flags xs) further).count xs)
flags_more xs next further ends rest ok go =
    piece_by (reach_of_flags xs) further xs (λ bs. if_read (flags_at bs) next) next (nat_le 1 (min 16 (prefix_len is_flag xs)))
    (λ e more yes. flags_whole xs next ends (some_of (min 16 (prefix_len is_flag xs)) e) more yes)
    (λ e more yes.
    let none : min 16 (prefix_len is_flag xs) ≡ 0 = none_of (min 16 (prefix_len is_flag xs)) e in (
      codes "0" ++ more,
      ap (λ n. if_read (flags_at (take n xs ++ (codes "0" ++ more))) next) none
          ∙ (ap (λ o. if_read o next) (flags_forth (false ∷ []) more (omega arith) (omega arith) (ends more yes)) ∙ yes),
    ))
    (go (min 16 (prefix_len is_flag xs))) rest ok
  where
    some_of : (n : ℕ) → nat_le 1 n ≡ true → 1 ≤ n
    some_of n e = grind (arith, e)

    none_of : (n : ℕ) → nat_le 1 n ≡ false → n ≡ 0
    none_of n e = grind (arith, e)

-- a word
shared_front : (w xs : List ℕ) → take (shared w xs) xs ≡ take (shared w xs) w
shared_front [] xs = refl
shared_front (x ∷ w) [] = refl
shared_front (x ∷ w) (b ∷ xs) = by (x == b) refl (shared_front w xs)
  where
    by : (t : Bool) → (x == b) ≡ t → take (shared w xs) xs ≡ take (shared w xs) w → take (shared_with t (shared w xs)) (b ∷ xs) ≡ take (shared_with t (shared w xs)) (x ∷ w)
    by true e rest =
        let n : suc (shared w xs) ≡ shared w xs + 1 = omega arith in
        let first = sym (eqb-true x b e) in
        let all : take (suc (shared w xs)) (b ∷ xs) ≡ take (suc (shared w xs)) (x ∷ w) = (λ i. first i ∷ rest i) in
        subst (λ k. take k (b ∷ xs) ≡ take k (x ∷ w)) n all
    by false e rest = refl

take_all_of : (w : List ℕ) (n : ℕ) → n ≡ length w → take n w ≡ w
take_all_of w n e = take_all n w (omega (arith, e))

word_more : (w xs : List ℕ) (next : List ℕ → Bool) (further : ℕ → Reach) → (rest : List ℕ) → next rest ≡ true → ((c : ℕ) → IsBegun next (take (further c).count (drop c xs)))
    → IsBegun (λ bs. if_rest (after_word w bs) next) (take (and_then (record { count = shared w xs; is_whole = shared w xs == length w }) further).count xs)
word_more w xs next further rest ok go =
    let n : ℕ = shared w xs in
    let r : Reach = record { count = n; is_whole = n == length w } in
    piece_by r further xs (λ bs. if_rest (after_word w bs) next) next (n == length w)
    (λ e more yes.
    let front : take n xs ≡ w = shared_front w xs ∙ take_all_of w n (eqb-true n (length w) e) in
    ap (λ l. if_rest (after_word w (l ++ more)) next) front ∙ (ap (λ o. if_rest o next) (after_word_is w more) ∙ yes))
    (λ e more yes.
    let text : take n xs ++ (drop n w ++ more) ≡ w ++ more =
    ap (λ l. l ++ (drop n w ++ more)) (shared_front w xs) ∙ (sym (append_assoc (take n w) (drop n w) more) ∙ ap (λ l. l ++ more) (take-append-drop n w)) in
    (drop n w ++ more, ap (λ l. if_rest (after_word w l) next) text ∙ (ap (λ o. if_rest o next) (after_word_is w more) ∙ yes)))
    (go n) rest ok

-- any form
last_count : (r : Reach) → (and_then r (λ n. record { count = 0; is_whole = true })).count ≡ r.count
last_count r = by r.is_whole
  where
    by : (t : Bool) → (and_then_if t r (λ n. record { count = 0; is_whole = true })).count ≡ r.count
    by true = omega arith
    by false = refl

pub form_more : (ps : List Piece) (xs : List ℕ) → IsForm ps → IsBegun (reads ps) (take (reach_of ps xs).count xs)
form_more [] xs form = ([], refl)
form_more (Word w ∷ ps) xs form =
    let some = form_more ps [] form in
    word_more w xs (reads ps) (λ n. reach_of ps (drop n xs)) (take (reach_of ps []).count [] ++ some.0) some.1 (λ c. form_more ps (drop c xs) form)
form_more (Number low high ∷ ps) xs form =
    let some = form_more ps [] form.4 in
    number_more low high xs (reads ps) (λ n. reach_of ps (drop n xs)) form.1 form.2 (form_ends ps form.3) (take (reach_of ps []).count [] ++ some.0) some.1
    (λ c. form_more ps (drop c xs) form.4)
form_more (Bytes ∷ []) xs form =
    subst (λ k. IsBegun (λ bs. is_read (bytes_of bs)) (take k xs)) (sym (last_count (reach_of_bytes xs))) (bytes_more xs)
form_more (Bytes ∷ p ∷ ps) xs form = absurd form
form_more (Flags ∷ ps) xs form =
    let some = form_more ps [] form.1 in
    flags_more xs (reads ps) (λ n. reach_of ps (drop n xs)) (form_ends ps form.0) (take (reach_of ps []).count [] ++ some.0) some.1 (λ c. form_more ps (drop c xs) form.1)
form_more (Owners ∷ []) xs form =
    subst (λ k. IsBegun (λ bs. is_read (owners_of bs)) (take k xs)) (sym (last_count (reach_of_owners xs))) (owners_more xs)
form_more (Owners ∷ p ∷ ps) xs form = absurd form
