-- Where a line is bad, by whether it is one of its forms.
use Rattle.std.proofs.Common.{◌≡◌, ℕ, ◌+◌, ◌≤◌, ◌==◌, ◌||◌, max, nat_lt, Bool, true, false, List, [], ◌∷◌, length, refl, ap, ◌∙◌, Option, Some, None, arith}
use Rattle.std.proofs.lemmas.Bool.{and_parts, eqb-true}
use Rattle.text_rules.specs.FieldBytes.{pick}
use Rattle.text_rules.specs.LineForms.{Piece, reach_of}
use Rattle.text_rules.specs.BadLine.{Why, Byte, Short, Cut, is_all, is_line, front_len, bad_at, behind_line}

-- a line of the forms is followed to its end
pub line_front : (forms : List (List Piece)) (line : List ℕ) → is_line forms line ≡ true → length line ≤ front_len forms line
line_front [] line h = absurd (let bad : false ≡ true = h in cc)
line_front (form ∷ forms) line h = by (is_all (length line) (reach_of form line)) refl h (line_front forms line)
  where
    by : (t : Bool) → is_all (length line) (reach_of form line) ≡ t → (t || is_line forms line) ≡ true → (is_line forms line ≡ true → length line ≤ front_len forms line)
        → length line ≤ max (reach_of form line).count (front_len forms line)
    by true all any rest =
        let parts = and_parts ((reach_of form line).count == length line) (reach_of form line).is_whole all in
        let same = eqb-true (reach_of form line).count (length line) parts.0 in
        omega (arith, same)
    by false all any rest = let more = rest any in omega (arith, more)

-- a line of the forms is nowhere bad
pub good_line : (forms : List (List Piece)) (line : List ℕ) → is_line forms line ≡ true → bad_at true forms line ≡ None
good_line forms line h =
    let front = line_front forms line h in
    let e : nat_lt (front_len forms line) (length line) ≡ false = grind (arith, front) in
    ap (λ t. pick t (Some (front_len forms line + 1, Byte)) (behind_line true forms line)) e
    ∙ ap (λ t. pick t None (Some (length line + 1, Short))) h

-- and another one is, where a byte or its end is
pub bad_line : (forms : List (List Piece)) (line : List ℕ) → is_line forms line ≡ false
    → bad_at true forms line ≡ pick (nat_lt (front_len forms line) (length line)) (Some (front_len forms line + 1, Byte)) (Some (length line + 1, Short))
bad_line forms line h =
    ap (λ t. pick (nat_lt (front_len forms line) (length line)) (Some (front_len forms line + 1, Byte)) (pick t None (Some (length line + 1, Short)))) h

-- a line without a newline: a bad byte is the same one, and else the line is cut behind its last byte
abbrev cut_at : List (List Piece) → List ℕ → Bool → Option (ℕ × Why)
cut_at forms line t = pick t (Some (front_len forms line + 1, Byte)) (Some (length line + 1, Cut))

abbrev end_at : List (List Piece) → List ℕ → Bool → Bool → Option (ℕ × Why)
end_at forms line t whole = pick t (Some (front_len forms line + 1, Byte)) (pick whole None (Some (length line + 1, Short)))

cut_good_by : (forms : List (List Piece)) (line : List ℕ) (t whole : Bool) → end_at forms line t whole ≡ None → cut_at forms line t ≡ Some (length line + 1, Cut)
cut_good_by forms line true whole h = absurd (cc)
cut_good_by forms line false whole h = refl

pub cut_good : (forms : List (List Piece)) (line : List ℕ) → bad_at true forms line ≡ None → bad_at false forms line ≡ Some (length line + 1, Cut)
cut_good forms line h = cut_good_by forms line (nat_lt (front_len forms line) (length line)) (is_line forms line) h

abbrev why_of : Option (ℕ × Why) → Why
why_of (Some at) = at.1
why_of None = Cut

abbrev is_byte : Why → Bool
is_byte Byte = true
is_byte Short = false
is_byte Cut = false

abbrev Found : Type 0
Found = Option (ℕ × Why)

abbrev found : ℕ → Why → Found
found column why = Some (column, why)

no_byte : (m n : ℕ) → found m Short ≡ found n Byte → ⊥
no_byte m n h = let bad : false ≡ true = ap (λ o. is_byte (why_of o)) h in absurd (cc)

no_short : (m n : ℕ) → found m Byte ≡ found n Short → ⊥
no_short m n h = let bad : true ≡ false = ap (λ o. is_byte (why_of o)) h in absurd (cc)

cut_byte_by : (forms : List (List Piece)) (line : List ℕ) (column : ℕ) (t whole : Bool) → end_at forms line t whole ≡ Some (column, Byte) → cut_at forms line t ≡ Some (column, Byte)
cut_byte_by forms line column true whole h = h
cut_byte_by forms line column false true h = absurd (cc)
cut_byte_by forms line column false false h = absurd (no_byte (length line + 1) column h)

pub cut_byte : (forms : List (List Piece)) (line : List ℕ) (column : ℕ) → bad_at true forms line ≡ Some (column, Byte) → bad_at false forms line ≡ Some (column, Byte)
cut_byte forms line column h = cut_byte_by forms line column (nat_lt (front_len forms line) (length line)) (is_line forms line) h

cut_short_by : (forms : List (List Piece)) (line : List ℕ) (column : ℕ) (t whole : Bool) → end_at forms line t whole ≡ Some (column, Short)
    → cut_at forms line t ≡ Some (length line + 1, Cut)
cut_short_by forms line column true whole h = absurd (no_short (front_len forms line + 1) column h)
cut_short_by forms line column false whole h = refl

pub cut_short : (forms : List (List Piece)) (line : List ℕ) (column : ℕ) → bad_at true forms line ≡ Some (column, Short)
    → bad_at false forms line ≡ Some (length line + 1, Cut)
cut_short forms line column h = cut_short_by forms line column (nat_lt (front_len forms line) (length line)) (is_line forms line) h
