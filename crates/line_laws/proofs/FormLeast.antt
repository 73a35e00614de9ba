-- A line that begins as one of a form does is followed at least so far, whatever the form.
use Rattle.std.proofs.Common.{◌≡◌, ℕ, zero, suc, ◌+◌, ◌-◌, ◌%◌, ◌<◌, ◌≤◌, ◌==◌, ◌&&◌, Bool, true, false, nat_le, min, map, List, [], ◌∷◌, ◌++◌, length, take, drop, refl, sym, ap, ◌∙◌, subst, inl, inr, Option, Some, None, arith}
use Rattle.std.specs.List.{prefix_len}
use Rattle.std.specs.Str.Parse.{digits_value}
use Rattle.std.proofs.lemmas.Bool.{and_parts, eqb-true, cases_lt}
use Rattle.text_rules.specs.FieldBytes.{pick}
use Rattle.text_rules.specs.LineForms.{Piece, Word, Number, Bytes, Flags, Owners, Reach, shared, shared_with, reach_of, reach_of_piece, reach_of_number, reach_of_bytes, reach_of_flags, reach_of_more, reach_of_owners, and_then}
use Rattle.text_rules.specs.BadLine.{is_all}
use Rattle.text_rules.specs.ReadLine.{◌>>=◌, where_true, after_word, number_at, bytes_of, is_hex_digit}
use Rattle.text_rules.specs.ReadEvent.{flags_at, is_flag, more_owners, owners_of}
use Rattle.line_laws.proofs.Words.{word_after, shared-le-word}
use Rattle.line_laws.proofs.FieldByField.{reads, if_read, if_rest, is_read, IsForm}
use Rattle.line_laws.proofs.PieceByPiece.{digits_in, is_number, number_read}
use Rattle.line_laws.proofs.Steps.{comma_step}
use Rattle.line_laws.proofs.OwnersRead.{reads_more, owner_read, comma_read}
use Rattle.line_laws.proofs.BytesRead.{bytes_reach}
use Rattle.line_laws.proofs.Longer.{Shares, shares_less, shares_behind, shares_tail, shares_head, front_least, word_least, number_short, number_long, flags_short, flags_long, reach_least, reach_then}

-- what a number that is read stands before
number_reads : (low high : ℕ) (ys : List ℕ) (next : List ℕ → Bool) → if_read (number_at low high ys) next ≡ true
    → (is_number low high ys ≡ true) × (next (drop (digits_in ys) ys) ≡ true)
number_reads low high ys next h = by (is_number low high ys) refl (sym (ap (λ o. if_read o next) (number_read low high ys)) ∙ h)
  where
    by : (t : Bool) → is_number low high ys ≡ t → if_read (where_true t (digits_value 10 (take (digits_in ys) ys)) >>= (λ v. Some (v, drop (digits_in ys) ys))) next ≡ true
        → (is_number low high ys ≡ true) × (next (drop (digits_in ys) ys) ≡ true)
    by true e f = (e, f)
    by false e f = absurd (let bad : false ≡ true = f in cc)

number_least : (low high k : ℕ) (xs ys : List ℕ) (next : List ℕ → Bool) (further : ℕ → Reach) → low ≤ 1 → high < 10000000000
    → if_read (number_at low high ys) next ≡ true → Shares k xs ys
    → ((j : ℕ) → Shares j (drop (digits_in ys) xs) (drop (digits_in ys) ys) → next (drop (digits_in ys) ys) ≡ true → j ≤ (further (digits_in ys)).count)
    → k ≤ (and_then (reach_of_number low high xs) further).count
number_least low high k xs ys next further one small read s go =
    let parts = number_reads low high ys next read in
    elim (cases_lt (digits_in ys) k) [
      | inl long ↦
          reach_then (reach_of_number low high xs) further (digits_in ys) k (number_long low high k xs ys small parts.0 s long) (omega (arith, long))
          (go (k - digits_in ys) (shares_behind k (digits_in ys) xs ys (omega (arith, long)) s) parts.1)
      | inr short ↦
          let less = number_short low high k xs ys one small parts.0 s short in
          let more = reach_least (reach_of_number low high xs) further in
          omega (arith, less, more)
    ]

-- owners
unread : (n b : ℕ) (bs : List ℕ) → reads_more n (b ∷ bs) ≡ true → (b == 44) ≡ true
unfolding more_owners
unread zero b bs h = absurd (let bad : false ≡ true = h in cc)
unread (suc n) b bs h = by (b == 44) refl h
  where
    by : (t : Bool) → (b == 44) ≡ t
        → is_read (where_true (t && true) bs >>= (λ rest. number_at 0 15 rest >>= (λ owner. more_owners n owner.1 >>= (λ owners. Some (owner.0 ∷ owners))))) ≡ true → (b == 44) ≡ true
    by true e f = e
    by false e f = absurd (let bad : false ≡ true = f in cc)

no_more : (bs : List ℕ) → reads_more 0 bs ≡ true → length bs ≡ 0
unfolding more_owners
no_more [] h = refl
no_more (b ∷ bs) h = absurd (let bad : false ≡ true = h in cc)

more_least : (n k : ℕ) (xs ys : List ℕ) → reads_more n ys ≡ true → Shares k xs ys → k ≤ (reach_of_more n xs).count
more_least zero k xs ys read s = let none = no_more ys read in let b = s.second in omega (arith, none, b)
more_least (suc n) zero xs ys read s = omega arith
more_least (suc n) (suc k) xs [] read s = let b = s.second in absurd (omega (arith, b))
more_least (suc n) (suc k) [] (y ∷ ys) read s = let a = s.first in absurd (omega (arith, a))
more_least (suc n) (suc k) (x ∷ xs) (y ∷ ys) read s =
    let comma : y ≡ 44 = eqb-true y 44 (unread (suc n) y ys read) in
    let same : x ≡ 44 = shares_head k x y xs ys s ∙ comma in
    let inner = sym (comma_read n ys) ∙ (ap (λ b. reads_more (suc n) (b ∷ ys)) (sym comma) ∙ read) in
    let further : ℕ → Reach = λ m. reach_of_more n (drop (1 + m) (44 ∷ xs)) in
    let at : suc (digits_in ys) ≡ 1 + digits_in ys = omega arith in
    let least =
    number_least 0 15 k xs ys (reads_more n) further (omega arith) (omega arith) inner (shares_tail k x y xs ys s)
    (λ j shares rest. subst (λ i. j ≤ (reach_of_more n (drop i (44 ∷ xs))).count) at (more_least n j (drop (digits_in ys) xs) (drop (digits_in ys) ys) rest shares)) in
    let step : suc k ≤ (reach_of_more (suc n) (44 ∷ xs)).count =
    subst (λ r. suc k ≤ r.count) (sym (comma_step n xs)) (omega (arith, least)) in
    subst (λ b. suc k ≤ (reach_of_more (suc n) (b ∷ xs)).count) (sym same) step

owners_least : (k : ℕ) (xs ys : List ℕ) → is_read (owners_of ys) ≡ true → Shares k xs ys → k ≤ (reach_of_owners xs).count
unfolding owners_of
owners_least k xs ys read s =
    number_least 0 15 k xs ys (reads_more 15) (λ n. reach_of_more 15 (drop n xs)) (omega arith) (omega arith) (sym (owner_read 15 (number_at 0 15 ys)) ∙ read) s
    (λ j shares rest. more_least 15 j (drop (digits_in ys) xs) (drop (digits_in ys) ys) rest shares)

-- the bytes of a write
all_count : (n : ℕ) (r : Reach) → is_all n r ≡ true → r.count ≡ n
all_count n r h = let parts = and_parts (r.count == n) r.is_whole h in eqb-true r.count n parts.0

abbrev pub bytes_by : Bool → List ℕ → Reach
bytes_by t bs =
    pick (shared_with t 0 == 1) (record { count = 1; is_whole = true })
    (record { count = min 8192 (prefix_len is_hex_digit bs); is_whole = nat_le 1 (min 8192 (prefix_len is_hex_digit bs)) && (min 8192 (prefix_len is_hex_digit bs) % 2 == 0) })

bytes_case : (k x y : ℕ) (xs ys : List ℕ) (t : Bool) → (bytes_by t (y ∷ ys)).count ≡ suc (length ys) → Shares (suc k) (x ∷ xs) (y ∷ ys) → suc k ≤ (bytes_by t (x ∷ xs)).count
bytes_case k x y xs ys true whole s = let b = s.second in omega (arith, whole, b)
bytes_case k x y xs ys false whole s =
    let b = s.second in
    let more = front_least is_hex_digit (suc k) (x ∷ xs) (y ∷ ys) s (omega (arith, whole, b)) in
    omega (arith, more, whole, b)

bytes_least : (k : ℕ) (xs ys : List ℕ) → is_read (bytes_of ys) ≡ true → Shares k xs ys → k ≤ (reach_of_bytes xs).count
bytes_least zero xs ys read s = omega arith
bytes_least (suc k) [] ys read s = let a = s.first in absurd (omega (arith, a))
bytes_least (suc k) (x ∷ xs) [] read s = let b = s.second in absurd (omega (arith, b))
bytes_least (suc k) (x ∷ xs) (y ∷ ys) read s =
    let whole = all_count (suc (length ys)) (reach_of_bytes (y ∷ ys)) (sym (bytes_reach (y ∷ ys)) ∙ read) in
    let same : (45 == y) ≡ (45 == x) = ap (λ b. 45 == b) (sym (shares_head k x y xs ys s)) in
    subst (λ t. suc k ≤ (bytes_by t (x ∷ xs)).count) same (bytes_case k x y xs ys (45 == y) whole s)

-- flags
flags_reads : (ys : List ℕ) (next : List ℕ → Bool) → if_read (flags_at ys) next ≡ true
    → (1 ≤ prefix_len is_flag ys) × (prefix_len is_flag ys ≤ 16) × (next (drop (prefix_len is_flag ys) ys) ≡ true)
unfolding flags_at
flags_reads ys next h = by (nat_le 1 (prefix_len is_flag ys) && nat_le (prefix_len is_flag ys) 16) refl h
  where
    by : (t : Bool) → (nat_le 1 (prefix_len is_flag ys) && nat_le (prefix_len is_flag ys) 16) ≡ t
        → if_read (where_true t (map (λ b. b == 49) (take (prefix_len is_flag ys) ys), drop (prefix_len is_flag ys) ys)) next ≡ true
        → (1 ≤ prefix_len is_flag ys) × (prefix_len is_flag ys ≤ 16) × (next (drop (prefix_len is_flag ys) ys) ≡ true)
    by true e g = (grind (arith, e), grind (arith, e), g)
    by false e g = absurd (let bad : false ≡ true = g in cc)

-- a word
word_reads : (w ys : List ℕ) (next : List ℕ → Bool) → if_rest (after_word w ys) next ≡ true → (ys ≡ w ++ drop (length w) ys) × (next (drop (length w) ys) ≡ true)
word_reads w ys next h = by (after_word w ys) refl h
  where
    drop_word : (w rest : List ℕ) → drop (length w) (w ++ rest) ≡ rest
    drop_word [] rest = refl
    drop_word (x ∷ w) rest = drop_word w rest

    by : (o : Option (List ℕ)) → after_word w ys ≡ o → if_rest o next ≡ true → (ys ≡ w ++ drop (length w) ys) × (next (drop (length w) ys) ≡ true)
    by None e f = absurd (let bad : false ≡ true = f in cc)
    by (Some rest) e f =
        let all = word_after w ys rest e in
        let left : drop (length w) ys ≡ rest = ap (drop (length w)) all ∙ drop_word w rest in
        (all ∙ ap (λ l. w ++ l) (sym left), ap next left ∙ f)

take_word : (k : ℕ) (w rest : List ℕ) → k ≤ length w → take k (w ++ rest) ≡ take k w
take_word zero w rest le = refl
take_word (suc k) [] rest le = absurd (omega (arith, le))
take_word (suc k) (x ∷ w) rest le = ap (λ l. x ∷ l) (take_word k w rest (omega (arith, le)))

word_shares : (k : ℕ) (w xs ys rest : List ℕ) → ys ≡ w ++ rest → Shares k xs ys → k ≤ length w → Shares k xs w
word_shares k w xs ys rest e s le = record { same = s.same ∙ (ap (take k) e ∙ take_word k w rest le); first = s.first; second = le }

word_whole : (w xs : List ℕ) → length w ≤ shared w xs → shared w xs ≤ length w
    → (let r : Reach = record { count = shared w xs; is_whole = shared w xs == length w } in r) ≡ record { count = length w; is_whole = true }
word_whole w xs least most =
    let n : shared w xs ≡ length w = omega (arith, least, most) in
    let t : (length w == length w) ≡ true = grind arith in
    ap (λ m. let r : Reach = record { count = m; is_whole = m == length w } in r) n ∙ ap (λ b. let r : Reach = record { count = length w; is_whole = b } in r) t

-- any form
pub form_least : (ps : List Piece) (k : ℕ) (xs ys : List ℕ) → IsForm ps → reads ps ys ≡ true → Shares k xs ys → k ≤ (reach_of ps xs).count
form_least [] k xs ys form read s =
    let n = all_count (length ys) (record { count = 0; is_whole = true }) read in
    let b = s.second in
    omega (arith, n, b)
form_least (Word w ∷ ps) k xs ys form read s =
    let parts = word_reads w ys (reads ps) read in
    elim (cases_lt (length w) k) [
      | inl long ↦
          let front = word_least (length w) w xs (word_shares (length w) w xs ys (drop (length w) ys) parts.0 (shares_less k (length w) xs ys (omega (arith, long)) s) (omega arith)) in
          reach_then (reach_of_piece (Word w) xs) (λ n. reach_of ps (drop n xs)) (length w) k (word_whole w xs front (shared-le-word w xs)) (omega (arith, long))
          (form_least ps (k - length w) (drop (length w) xs) (drop (length w) ys) form parts.1 (shares_behind k (length w) xs ys (omega (arith, long)) s))
      | inr short ↦
          let front = word_least k w xs (word_shares k w xs ys (drop (length w) ys) parts.0 s short) in
          let more = reach_least (reach_of_piece (Word w) xs) (λ n. reach_of ps (drop n xs)) in
          omega (arith, front, more)
    ]
form_least (Number low high ∷ ps) k xs ys form read s =
    number_least low high k xs ys (reads ps) (λ n. reach_of ps (drop n xs)) form.0 form.2 read s
    (λ j shares rest. form_least ps j (drop (digits_in ys) xs) (drop (digits_in ys) ys) form.4 rest shares)
form_least (Bytes ∷ ps) k xs ys form read s =
    let least = bytes_least k xs ys read s in
    let more = reach_least (reach_of_bytes xs) (λ n. reach_of ps (drop n xs)) in
    omega (arith, least, more)
form_least (Flags ∷ ps) k xs ys form read s =
    let parts = flags_reads ys (reads ps) read in
    elim (cases_lt (prefix_len is_flag ys) k) [
      | inl long ↦
          reach_then (reach_of_flags xs) (λ n. reach_of ps (drop n xs)) (prefix_len is_flag ys) k (flags_long k xs ys s long parts.0 parts.1) (omega (arith, long))
          (form_least ps (k - prefix_len is_flag ys) (drop (prefix_len is_flag ys) xs) (drop (prefix_len is_flag ys) ys) form.1 parts.2
          (shares_behind k (prefix_len is_flag ys) xs ys (omega (arith, long)) s))
      | inr short ↦
          let few = parts.1 in
          let front = flags_short k xs ys s short (omega (arith, short, few)) in
          let more = reach_least (reach_of_flags xs) (λ n. reach_of ps (drop n xs)) in
          omega (arith, front, more)
    ]
form_least (Owners ∷ ps) k xs ys form read s =
    let least = owners_least k xs ys read s in
    let more = reach_least (reach_of_owners xs) (λ n. reach_of ps (drop n xs)) in
    omega (arith, least, more)
