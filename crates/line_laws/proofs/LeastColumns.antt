-- The column of a bad line is the least one up to which no line of the grammar goes.
use Rattle.std.proofs.Common.{◌≡◌, ℕ, ◌+◌, ◌-◌, ◌<◌, ◌≤◌, ◌||◌, Bool, true, false, max, nat_lt, List, [], ◌∷◌, ◌++◌, length, length-append, length-take, take, drop, map, codes, refl, sym, ap, ◌∙◌, subst, inl, inr, is_some, Option, Some, None, arith, append_assoc}
use Rattle.std.proofs.lemmas.Bool.{cases_lt}
use Rattle.std.proofs.lemmas.List.{take-append-drop, take-take, take_all, take-append-le}
use Rattle.text_rules.specs.FieldBytes.{pick}
use Rattle.text_rules.specs.LineForms.{Piece, Word, reach_of}
use Rattle.text_rules.specs.ReadLine.{header_of}
use Rattle.text_rules.specs.ReadEvent.{event_of}
use Rattle.text_rules.specs.BadLine.{IsEventLine, IsHeaderLine, IsFront, Why, Byte, Short, Cut, IsBadByte, IsBadAt, is_all, is_line, front_len, bad_at, behind_line, spaced_form, event_forms, header_forms}
use Rattle.line_laws.proofs.FieldByField.{reads, IsForm}
use Rattle.line_laws.proofs.FormRead.{form_read}
use Rattle.line_laws.proofs.Longer.{Shares}
use Rattle.line_laws.proofs.FormLeast.{form_least}
use Rattle.line_laws.proofs.BytesMore.{IsBegun}
use Rattle.line_laws.proofs.FormMore.{form_more}
use Rattle.line_laws.proofs.EventLines.{event_back, event_forth, header_back, header_forth}
use Rattle.line_laws.proofs.Rows.{Row, form_of, AreGood, begin_row, later_rows, rows, all_good, header_good, event_lines, header_lines}

-- all of the forms are forms
abbrev pub AreForms : List (List Piece) → Type 0
AreForms [] = Unit {0}
AreForms (form ∷ forms) = IsForm form × AreForms forms

or_true : (t : Bool) → (t || true) ≡ true
or_true true = refl
or_true false = refl

first_line : (form : List Piece) (forms : List (List Piece)) (line : List ℕ) → IsForm form → reads form line ≡ true → is_line (form ∷ forms) line ≡ true
first_line form forms line good h = ap (λ t. t || is_line forms line) (form_read form line good ∙ h)

later_line : (form : List Piece) (forms : List (List Piece)) (line : List ℕ) → is_line forms line ≡ true → is_line (form ∷ forms) line ≡ true
later_line form forms line h = ap (λ t. is_all (length line) (reach_of form line) || t) h ∙ or_true (is_all (length line) (reach_of form line))

-- the bytes up to which the line follows a form are a front of a line
begun : (form : List Piece) (forms : List (List Piece)) (xs : List ℕ) → IsForm form → AreForms forms → IsBegun (is_line (form ∷ forms)) (take (front_len (form ∷ forms) xs) xs)
begun form [] xs good more =
    let begins = form_more form xs good in
    let n : (reach_of form xs).count ≡ max (reach_of form xs).count 0 = omega arith in
    subst (λ k. IsBegun (is_line (form ∷ [])) (take k xs)) n
    (begins.0, first_line form [] (take (reach_of form xs).count xs ++ begins.0) good begins.1)
begun form (g ∷ gs) xs good more =
    let c : ℕ = (reach_of form xs).count in
    let f : ℕ = front_len (g ∷ gs) xs in
    elim (cases_lt c f) [
      | inl less ↦
          let begins = begun g gs xs more.0 more.1 in
          let n : f ≡ max c f = omega (arith, less) in
          subst (λ k. IsBegun (is_line (form ∷ g ∷ gs)) (take k xs)) n (begins.0, later_line form (g ∷ gs) (take f xs ++ begins.0) begins.1)
      | inr most ↦
          let begins = form_more form xs good in
          let n : c ≡ max c f = omega (arith, most) in
          subst (λ k. IsBegun (is_line (form ∷ g ∷ gs)) (take k xs)) n (begins.0, first_line form (g ∷ gs) (take c xs ++ begins.0) good begins.1)
    ]

-- and no more bytes are
least : (forms : List (List Piece)) (k : ℕ) (xs ys : List ℕ) → AreForms forms → is_line forms ys ≡ true → Shares k xs ys → k ≤ front_len forms xs
least [] k xs ys good h s = absurd (let bad : false ≡ true = h in cc)
least (form ∷ forms) k xs ys good h s = by (is_all (length ys) (reach_of form ys)) refl h (λ more. least forms k xs ys good.1 more s)
  where
    by : (t : Bool) → is_all (length ys) (reach_of form ys) ≡ t → (t || is_line forms ys) ≡ true → (is_line forms ys ≡ true → k ≤ front_len forms xs)
        → k ≤ max (reach_of form xs).count (front_len forms xs)
    by true e any go = let first = form_least form k xs ys good.0 (sym (form_read form ys good.0) ∙ e) s in omega (arith, first)
    by false e any go = let rest = go any in omega (arith, rest)

-- ---- a grammar by its forms

-- the lines are those of some forms
pub record IsGrammar (Line : List ℕ → Type 0) (form : List Piece) (forms : List (List Piece)) : Type 0 where
  pub good : IsForm form
  pub more : AreForms forms
  pub to : (l : List ℕ) → Line l → is_line (form ∷ forms) l ≡ true
  pub from : (l : List ℕ) → is_line (form ∷ forms) l ≡ true → Line l

module_front : (Line : List ℕ → Type 0) (form : List Piece) (forms : List (List Piece)) → IsGrammar Line form forms → (xs : List ℕ) (k : ℕ) → k ≤ front_len (form ∷ forms) xs
    → IsFront Line (take k xs)
module_front Line form forms g xs k le =
    let f : ℕ = front_len (form ∷ forms) xs in
    let begins = begun form forms xs g.good g.more in
    let text : take f xs ++ begins.0 ≡ take k xs ++ (drop k (take f xs) ++ begins.0) =
    ap (λ l. l ++ begins.0) (sym (take-append-drop k (take f xs)) ∙ ap (λ l. l ++ drop k (take f xs)) (take-take k f xs le))
    ∙ append_assoc (take k xs) (drop k (take f xs)) begins.0 in
    (drop k (take f xs) ++ begins.0, subst Line text (g.from (take f xs ++ begins.0) begins.1))

front_shares : (xs more : List ℕ) (k : ℕ) → k ≤ length xs → Shares k xs (take k xs ++ more)
front_shares xs more k le =
    let len : length (take k xs) ≡ k = length-take k xs ∙ omega (arith, le) in
    let whole = length-append (take k xs) more in
    record {
      same = sym (take-append-le k (take k xs) more (omega (arith, len)) ∙ take-take k k xs (omega arith));
      first = le;
      second = omega (arith, whole, len);
    }

front_most : (Line : List ℕ → Type 0) (form : List Piece) (forms : List (List Piece)) → IsGrammar Line form forms → (xs : List ℕ) (k : ℕ) → k ≤ length xs
    → IsFront Line (take k xs) → k ≤ front_len (form ∷ forms) xs
front_most Line form forms g xs k le front =
    least (form ∷ forms) k xs (take k xs ++ front.0) (g.good, g.more) (g.to (take k xs ++ front.0) front.1) (front_shares xs front.0 k le)

whole_front : (Line : List ℕ → Type 0) (form : List Piece) (forms : List (List Piece)) → IsGrammar Line form forms → (xs : List ℕ) → length xs ≤ front_len (form ∷ forms) xs
    → IsFront Line xs
whole_front Line form forms g xs le = subst (IsFront Line) (take_all (length xs) xs (omega arith)) (module_front Line form forms g xs (length xs) le)

whole_most : (Line : List ℕ → Type 0) (form : List Piece) (forms : List (List Piece)) → IsGrammar Line form forms → (xs : List ℕ) → IsFront Line xs
    → length xs ≤ front_len (form ∷ forms) xs
whole_most Line form forms g xs front =
    front_most Line form forms g xs (length xs) (omega arith) (subst (IsFront Line) (sym (take_all (length xs) xs (omega arith))) front)

byte_is : (Line : List ℕ → Type 0) (form : List Piece) (forms : List (List Piece)) → IsGrammar Line form forms → (xs : List ℕ) → front_len (form ∷ forms) xs < length xs
    → IsBadByte Line xs (front_len (form ∷ forms) xs + 1)
byte_is Line form forms g xs less =
    record {
      first = omega arith;
      last = omega (arith, less);
      least = λ k below. module_front Line form forms g xs k (omega (arith, below));
      off = λ front. let more = front_most Line form forms g xs (front_len (form ∷ forms) xs + 1) (omega (arith, less)) front in absurd (omega (arith, more));
    }

lt_true : (m n : ℕ) → nat_lt m n ≡ true → m < n
lt_true m n h = grind (arith, h)

lt_false : (m n : ℕ) → nat_lt m n ≡ false → n ≤ m
lt_false m n h = grind (arith, h)

lt_test : (m n : ℕ) → m < n → nat_lt m n ≡ true
lt_test m n h = grind (arith, h)

le_test : (m n : ℕ) → n ≤ m → nat_lt m n ≡ false
le_test m n h = grind (arith, h)

abbrev At : (List ℕ → Type 0) → Bool → List ℕ → ℕ × Why → Type 0
At Line newline xs p = IsBadAt Line newline xs p.0 p.1

not_both : (t : Bool) → t ≡ false → t ≡ true → ⊥
not_both t e f = let bad : false ≡ true = sym e ∙ f in absurd (cc)

found_same : (p q : ℕ × Why) → Some p ≡ Some q → p ≡ q
found_same p q h = cc

end_to : (Line : List ℕ → Type 0) (form : List Piece) (forms : List (List Piece)) → IsGrammar Line form forms → (xs : List ℕ) (newline : Bool) (p : ℕ × Why)
    → length xs ≤ front_len (form ∷ forms) xs → behind_line newline (form ∷ forms) xs ≡ Some p → At Line newline xs p
end_to Line form forms g xs true p le h = by (is_line (form ∷ forms) xs) refl h
  where
    by : (t : Bool) → is_line (form ∷ forms) xs ≡ t → pick t None (Some (length xs + 1, Short)) ≡ Some p → At Line true xs p
    by true e f = absurd (cc)
    by false e f =
        subst (At Line true xs) (found_same (length xs + 1, Short) p f)
        (record { front = whole_front Line form forms g xs le; behind = refl }, λ line. not_both (is_line (form ∷ forms) xs) e (g.to xs line))
end_to Line form forms g xs false p le h =
    subst (At Line false xs) (found_same (length xs + 1, Cut) p h) (record { front = whole_front Line form forms g xs le; behind = refl })

pub bad_to : (Line : List ℕ → Type 0) (form : List Piece) (forms : List (List Piece)) → IsGrammar Line form forms → (xs : List ℕ) (newline : Bool) (p : ℕ × Why)
    → bad_at newline (form ∷ forms) xs ≡ Some p → At Line newline xs p
bad_to Line form forms g xs newline p h = by (nat_lt (front_len (form ∷ forms) xs) (length xs)) refl h
  where
    by : (t : Bool) → nat_lt (front_len (form ∷ forms) xs) (length xs) ≡ t
        → pick t (Some (front_len (form ∷ forms) xs + 1, Byte)) (behind_line newline (form ∷ forms) xs) ≡ Some p → At Line newline xs p
    by true e f =
        subst (At Line newline xs) (found_same (front_len (form ∷ forms) xs + 1, Byte) p f) (byte_is Line form forms g xs (lt_true (front_len (form ∷ forms) xs) (length xs) e))
    by false e f = end_to Line form forms g xs newline p (lt_false (front_len (form ∷ forms) xs) (length xs) e) f

byte_from : (Line : List ℕ → Type 0) (form : List Piece) (forms : List (List Piece)) → IsGrammar Line form forms → (xs : List ℕ) (newline : Bool) (column : ℕ)
    → IsBadByte Line xs column → bad_at newline (form ∷ forms) xs ≡ Some (column, Byte)
byte_from Line form forms g xs newline column b =
    let f : ℕ = front_len (form ∷ forms) xs in
    let first = b.first in
    let last = b.last in
    let before = front_most Line form forms g xs (column - 1) (omega (arith, last)) (b.least (column - 1) (omega (arith, first))) in
    let beyond : f < column = elim (cases_lt f column) [
      | inl below ↦ below
      | inr inside ↦ absurd (b.off (module_front Line form forms g xs column inside))
    ] in
    let at : f + 1 ≡ column = omega (arith, before, beyond) in
    ap (λ t. pick t (Some (f + 1, Byte)) (behind_line newline (form ∷ forms) xs)) (lt_test f (length xs) (omega (arith, before, beyond, last)))
    ∙ ap (λ c. Some (c, Byte)) at

no_line : (Line : List ℕ → Type 0) (form : List Piece) (forms : List (List Piece)) → IsGrammar Line form forms → (xs : List ℕ) → ¬ Line xs → is_line (form ∷ forms) xs ≡ false
no_line Line form forms g xs none = by (is_line (form ∷ forms) xs) refl
  where
    by : (t : Bool) → is_line (form ∷ forms) xs ≡ t → t ≡ false
    by true e = absurd (none (g.from xs e))
    by false e = refl

pub bad_from : (Line : List ℕ → Type 0) (form : List Piece) (forms : List (List Piece)) → IsGrammar Line form forms → (xs : List ℕ) (newline : Bool) (column : ℕ) (why : Why)
    → IsBadAt Line newline xs column why → bad_at newline (form ∷ forms) xs ≡ Some (column, why)
bad_from Line form forms g xs newline column Byte b = byte_from Line form forms g xs newline column b
bad_from Line form forms g xs true column Short b =
    let le = whole_most Line form forms g xs (b.0).front in
    ap (λ t. pick t (Some (front_len (form ∷ forms) xs + 1, Byte)) (behind_line true (form ∷ forms) xs)) (le_test (front_len (form ∷ forms) xs) (length xs) le)
    ∙ (ap (λ t. pick t None (Some (length xs + 1, Short))) (no_line Line form forms g xs b.1) ∙ ap (λ c. Some (c, Short)) (sym (b.0).behind))
bad_from Line form forms g xs false column Short b = absurd b
bad_from Line form forms g xs true column Cut b = absurd b
bad_from Line form forms g xs false column Cut b =
    let le = whole_most Line form forms g xs b.front in
    ap (λ t. pick t (Some (front_len (form ∷ forms) xs + 1, Byte)) (behind_line false (form ∷ forms) xs)) (le_test (front_len (form ∷ forms) xs) (length xs) le)
    ∙ ap (λ c. Some (c, Cut)) (sym b.behind)

-- ---- the two grammars

rows_forms : (rs : List Row) → AreGood rs → AreForms (map form_of rs)
rows_forms [] good = tt
rows_forms (r ∷ rs) good = (good.0.form, rows_forms rs good.2)

some_is : {X : Type 0} (o : Option X) → is_some o ≡ true → (x : X) × (o ≡ Some x)
some_is None h = absurd (let bad : false ≡ true = h in cc)
some_is (Some x) h = (x, refl)

event_grammar : IsGrammar IsEventLine (form_of begin_row) (map form_of later_rows)
event_grammar =
    let good = rows_forms rows all_good in
    record {
      good = good.0;
      more = good.1;
      to = λ l line. event_lines l ∙ ap is_some (ap event_of (sym line.2) ∙ event_forth line.0 line.1);
      from = λ l h. let found = some_is (event_of l) (sym (event_lines l) ∙ h) in let back = event_back l found.0 found.1 in (found.0, back.0, back.1);
    }

header_grammar : IsGrammar IsHeaderLine (Word (codes "pcl 1") ∷ [] ++ spaced_form 0 65536 ++ spaced_form 0 65536 ++ spaced_form 0 65536 ++ spaced_form 0 65536) []
header_grammar =
    record {
      good = header_good;
      more = tt;
      to = λ l line. header_lines l ∙ ap is_some (ap header_of (sym line.2) ∙ header_forth line.0 line.1);
      from = λ l h. let found = some_is (header_of l) (sym (header_lines l) ∙ h) in let back = header_back l found.0 found.1 in (found.0, back.0, back.1);
    }

pub event_columns_to : (newline : Bool) (line : List ℕ) (column : ℕ) (why : Why) → bad_at newline event_forms line ≡ Some (column, why) → IsBadAt IsEventLine newline line column why
event_columns_to newline line column why h = bad_to IsEventLine (form_of begin_row) (map form_of later_rows) event_grammar line newline (column, why) h

pub event_columns_from : (newline : Bool) (line : List ℕ) (column : ℕ) (why : Why) → IsBadAt IsEventLine newline line column why → bad_at newline event_forms line ≡ Some (column, why)
event_columns_from newline line column why h = bad_from IsEventLine (form_of begin_row) (map form_of later_rows) event_grammar line newline column why h

pub header_columns_to : (newline : Bool) (line : List ℕ) (column : ℕ) (why : Why) → bad_at newline header_forms line ≡ Some (column, why) → IsBadAt IsHeaderLine newline line column why
header_columns_to newline line column why h =
    bad_to IsHeaderLine (Word (codes "pcl 1") ∷ [] ++ spaced_form 0 65536 ++ spaced_form 0 65536 ++ spaced_form 0 65536 ++ spaced_form 0 65536) [] header_grammar line newline (column, why) h

pub header_columns_from : (newline : Bool) (line : List ℕ) (column : ℕ) (why : Why) → IsBadAt IsHeaderLine newline line column why → bad_at newline header_forms line ≡ Some (column, why)
header_columns_from newline line column why h =
    bad_from IsHeaderLine (Word (codes "pcl 1") ∷ [] ++ spaced_form 0 65536 ++ spaced_form 0 65536 ++ spaced_form 0 65536 ++ spaced_form 0 65536) [] header_grammar line newline column why h
