-- The bytes of a write, printed and read: each way gives back what the other took.
use Rattle.std.proofs.Common.{◌≡◌, ℕ, zero, suc, ◌*◌, ◌/◌, ◌%◌, ◌<◌, ◌≤◌, ◌==◌, ◌&&◌, Bool, true, false, nat_le, List, [], ◌∷◌, length, slice_index, codes, refl, sym, ap, ◌∙◌, subst, inl, inr, Some, Result, Ok, Err, arith}
use Rattle.std.specs.List.{list_all, AllByRecursion}
use Rattle.std.proofs.lemmas.Bool.{and_parts, eqb-true, cases_lt}
use Rattle.hex.specs.Hex.{encode_lower, encode_with, lower_digits, decode_of, IsBytes}
use Rattle.hex.specs.declared.error.FromHexError.{FromHexError}
use Rattle.hex.proofs.HexLemmas.{length-encode_with, decode_of-ok, decode_of-encode_lower}
use Rattle.text_rules.specs.ScheduleLine.{bytes_text}
use Rattle.text_rules.specs.ReadLine.{◌>>=◌, where_true, value_of, is_hex_digit, are_digits, pairs_of, bytes_or_none, bytes_of}
use Rattle.line_laws.proofs.Printed.{digits_back}
use Rattle.line_laws.proofs.FieldsBack.{bind_some, some_same, where_some}

-- every byte is one
small_bytes : (bs : List ℕ) → IsBytes bs → AllByRecursion (λ b. b < 256) bs
small_bytes [] h = tt
small_bytes (b ∷ bs) h = (h zero, small_bytes bs (λ i. h (suc i)))

bytes_small : (bs : List ℕ) → AllByRecursion (λ b. b < 256) bs → IsBytes bs
bytes_small [] a i = omega arith
bytes_small (b ∷ bs) a zero = a.0
bytes_small (b ∷ bs) a (suc i) = bytes_small bs a.1 i

abbrev IsBytesOf : List ℕ → List ℕ → Type 0
IsBytesOf text bytes = (bytes_text bytes ≡ text) × (length bytes ≤ 4096) × AllByRecursion (λ b. b < 256) bytes

value_some : (r : Result (List ℕ) FromHexError) (bytes : List ℕ) → value_of r ≡ Some bytes → r ≡ Ok bytes
value_some (Ok bs) bytes h = ap Ok (some_same bs bytes h)
value_some (Err e) bytes h = absurd (cc)

pairs_back : (text bytes : List ℕ) → pairs_of text ≡ Some bytes → IsBytesOf text bytes
pairs_back text bytes h =
    let found = bind_some (where_true (are_digits text) text) (λ digits. value_of (decode_of digits)) bytes h in
    let tested = where_some (are_digits text) text found.0 found.1 in
    let decoded : decode_of text ≡ Ok bytes = value_some (decode_of text) bytes (ap (λ l. value_of (decode_of l)) tested.1 ∙ found.2) in
    let ok = decode_of-ok text bytes decoded in
    let parts = and_parts (nat_le 2 (length text) && nat_le (length text) 8192) (list_all is_hex_digit text) tested.0 in
    let len = and_parts (nat_le 2 (length text)) (nat_le (length text) 8192) parts.0 in
    let twice = ok.2 in
    let most : length bytes ≤ 4096 = grind (arith, twice, len.1) in
    (digits_back text bytes tested.0 decoded, most, small_bytes bytes ok.3)

dash_back : (text : List ℕ) → (length text == 1 && slice_index text 0 == 45) ≡ true → codes "-" ≡ text
dash_back [] h = absurd (let bad : false ≡ true = h in cc)
dash_back (b ∷ []) h = let e = eqb-true b 45 h in ap (λ x. x ∷ []) (sym e)
dash_back (b ∷ d ∷ bs) h =
    let two : (suc (suc (length bs)) == 1) ≡ false = grind arith in
    absurd (let bad : false ≡ true = sym (ap (λ t. t && (b == 45)) two) ∙ h in cc)

bytes_by : (text bytes : List ℕ) (t : Bool) → (length text == 1 && slice_index text 0 == 45) ≡ t → bytes_or_none t text ≡ Some bytes → IsBytesOf text bytes
bytes_by text bytes true e h =
    subst (IsBytesOf text) (some_same [] bytes h) (dash_back text e, omega arith, tt)
bytes_by text bytes false e h = pairs_back text bytes h

pub bytes_back : (text bytes : List ℕ) → bytes_of text ≡ Some bytes → IsBytesOf text bytes
unfolding bytes_of
bytes_back text bytes h = bytes_by text bytes (length text == 1 && slice_index text 0 == 45) refl h

-- the digits of bytes are digits
abbrev all_glyphs : ℕ → Bool
all_glyphs zero = true
all_glyphs (suc n) = is_hex_digit (slice_index lower_digits n) && all_glyphs n

glyph_below : (m n : ℕ) → all_glyphs m ≡ true → n < m → is_hex_digit (slice_index lower_digits n) ≡ true
glyph_below zero n h below = absurd (omega (arith, below))
glyph_below (suc m) n h below =
    let parts = and_parts (is_hex_digit (slice_index lower_digits m)) (all_glyphs m) h in
    elim (cases_lt n m) [
      | inl before ↦ glyph_below m n parts.1 before
      | inr top ↦ let e : n ≡ m = omega (arith, below, top) in ap (λ k. is_hex_digit (slice_index lower_digits k)) e ∙ parts.0
    ]

glyph : (n : ℕ) → n < 16 → is_hex_digit (slice_index lower_digits n) ≡ true
glyph n small = glyph_below 16 n refl small

glyphs : (bs : List ℕ) → AllByRecursion (λ b. b < 256) bs → list_all is_hex_digit (encode_lower bs) ≡ true
unfolding encode_with
glyphs [] small = refl
glyphs (b ∷ bs) small =
    let byte = small.0 in
    let high = glyph (b / 16) (omega (arith, byte)) in
    let low = glyph (b % 16) (omega arith) in
    ap (λ t. t && (is_hex_digit (slice_index lower_digits (b % 16)) && list_all is_hex_digit (encode_lower bs))) high
    ∙ (ap (λ t. t && list_all is_hex_digit (encode_lower bs)) low ∙ glyphs bs small.1)

some_forth : (b : ℕ) (bs : List ℕ) → length (b ∷ bs) ≤ 4096 → AllByRecursion (λ b. b < 256) (b ∷ bs) → bytes_of (encode_lower (b ∷ bs)) ≡ Some (b ∷ bs)
unfolding bytes_of
some_forth b bs most small =
    let text : List ℕ = encode_lower (b ∷ bs) in
    let len : length text ≡ 2 * suc (length bs) = length-encode_with lower_digits (b ∷ bs) in
    let other : (length text == 1 && slice_index text 0 == 45) ≡ false = grind (arith, len) in
    let long : (nat_le 2 (length text) && nat_le (length text) 8192) ≡ true = grind (arith, len, most) in
    let digits : are_digits text ≡ true = ap (λ t. t && list_all is_hex_digit text) long ∙ glyphs (b ∷ bs) small in
    ap (λ t. bytes_or_none t text) other
    ∙ (ap (λ t. where_true t text >>= (λ digits. value_of (decode_of digits))) digits
    ∙ ap value_of (decode_of-encode_lower (b ∷ bs) (bytes_small (b ∷ bs) small)))

pub bytes_forth : (bs : List ℕ) → length bs ≤ 4096 → AllByRecursion (λ b. b < 256) bs → bytes_of (bytes_text bs) ≡ Some bs
unfolding bytes_of
bytes_forth [] most small = refl
bytes_forth (b ∷ bs) most small = some_forth b bs most small
