-- What is read is printed so.
use Rattle.std.proofs.Common.{◌≡◌, ℕ, ◌+◌, ◌*◌, ◌/◌, ◌%◌, ◌<◌, ◌==◌, ◌&&◌, Bool, true, cond, nat_le, nat_lt, List, [], ◌∷◌, length, zero, suc, refl, sym, ap, ◌∙◌, inl, inr, slice_index, unwrap_or, Option, Some, None, Result, Ok, Err, arith}
use Rattle.std.specs.List.{list_all}
use Rattle.std.specs.Fmt.{decimal}
use Rattle.std.specs.Str.Parse.{AllDigits, digits_value}
use Rattle.std.proofs.lemmas.Bool.{and_parts, cases_lt, eqb-true}
use Rattle.std.proofs.lemmas.Fmt.{decimal-digits_value}
use Rattle.std.proofs.lemmas.Str.Parse.{numerals_by_value, tells_digits}
use Rattle.std.specs.Prelude.{MatchOption, IfSome}
use Rattle.std.specs.Result.{result_unwrap_or}
use Rattle.hex.specs.Hex.{encode_lower, encode_with, lower_digits, hex_digit_value, decode_of, decode_pairs, pair_value, value_at, digit_or_error}
use Rattle.hex.specs.declared.error.FromHexError.{FromHexError}
use Rattle.hex.proofs.Pairs.{cons_byte, decode_pairs-ok_pair}
use Rattle.text_rules.specs.ScheduleLine.{bytes_text}
use Rattle.text_rules.specs.ReadLine.{is_hex_digit, is_numeral, are_digits}
use Rattle.line_laws.proofs.Digits.{ten_digits}

-- a numeral's digits are those of its number
pub numeral_back : (ds : List ℕ) → AllDigits 10 ds → is_numeral ds ≡ true → decimal (digits_value 10 ds) ≡ ds
numeral_back ds all plain =
    let few = ten_digits ds all (grind (arith, plain)) in
    decimal-digits_value (numerals_by_value (AllDigits 10) tells_digits) ds all (grind (arith, plain)) (λ first. grind (arith, plain, first)) (omega (arith, few))

-- the test of one digit: its value is below 16, and stands for it in the table
abbrev reads_back : ℕ → Bool
reads_back c = cond (is_hex_digit c) (nat_lt (unwrap_or (hex_digit_value c) 99) 16 && slice_index lower_digits (unwrap_or (hex_digit_value c) 99) == c) true

abbrev all_read_back : ℕ → Bool
all_read_back zero = true
all_read_back (suc n) = reads_back n && all_read_back n

all_read_back-at : (n c : ℕ) → all_read_back n ≡ true → c < n → reads_back c ≡ true
all_read_back-at zero c h below = absurd (omega arith)
all_read_back-at (suc n) c h below =
    let parts = and_parts (reads_back n) (all_read_back n) h in
    elim (cases_lt c n) [
      | inl before ↦ all_read_back-at n c parts.1 before
      | inr top ↦ let e : c ≡ n = omega arith in rw e parts.0
    ]

-- a digit in lower case, and its value
pub record Digit (c : ℕ) : Type 0 where
  pub value : ℕ
  pub read : hex_digit_value c ≡ Some value
  pub small : value < 16
  pub back : slice_index lower_digits value ≡ c

some_small : (o : Option ℕ) → unwrap_or o 99 < 16 → o ≡ Some (unwrap_or o 99)
some_small (Some v) small = refl
some_small None small = absurd (omega arith)

pub digit_of : (c : ℕ) → is_hex_digit c ≡ true → Digit c
digit_of c digit =
    let tested = all_read_back-at 103 c refl (grind (arith, digit)) in
    let value : ℕ = unwrap_or (hex_digit_value c) 99 in
    let passed : (nat_lt value 16 && slice_index lower_digits value == c) ≡ true =
    ap (λ t. cond t (nat_lt value 16 && slice_index lower_digits value == c) true) (sym digit) ∙ tested in
    let parts = and_parts (nat_lt value 16) (slice_index lower_digits value == c) passed in
    let small : value < 16 = grind (arith, parts.0) in
    record { value = value; read = some_small (hex_digit_value c) small; small = small; back = eqb-true (slice_index lower_digits value) c parts.1 }

-- the bytes behind the first
cons_ok : (v : ℕ) (r : Result (List ℕ) FromHexError) (bytes : List ℕ) → cons_byte v r ≡ Ok bytes
    → (tail : List ℕ) × (r ≡ Ok tail) × (v ∷ tail ≡ bytes)
cons_ok v (Ok tail) bytes h = (tail, refl, ap (λ q. result_unwrap_or q []) h)
cons_ok v (Err e) bytes h = cc h

-- digits in lower case that decode are those of the bytes
pub pairs_back : (i : ℕ) (text bytes : List ℕ) → list_all is_hex_digit text ≡ true → decode_pairs i text ≡ Ok bytes → encode_lower bytes ≡ text
unfolding decode_pairs encode_with
pairs_back i [] bytes digits h =
    let e : [] ≡ bytes = ap (λ q. result_unwrap_or q []) h in
    ap encode_lower (sym e)
pairs_back i (a ∷ []) bytes digits h = cc h
pairs_back i (a ∷ b ∷ rest) bytes digits h =
    let first = and_parts (is_hex_digit a) (list_all is_hex_digit (b ∷ rest)) digits in
    let second = and_parts (is_hex_digit b) (list_all is_hex_digit rest) first.1 in
    let da = digit_of a first.0 in
    let db = digit_of b second.0 in
    let ha : value_at a i ≡ Ok da.value = ap (digit_or_error a i) da.read in
    let hb : value_at b (i + 1) ≡ Ok db.value = ap (digit_or_error b (i + 1)) db.read in
    let v : ℕ = da.value * 16 + db.value in
    let pair : pair_value a b i ≡ Ok v = rw (ha, hb) refl in
    let tail = cons_ok v (decode_pairs (i + 2) rest) bytes (sym (decode_pairs-ok_pair i a b v rest pair) ∙ h) in
    let left = pairs_back (i + 2) rest tail.0 second.1 tail.1 in
    let high : v / 16 ≡ da.value = omega (arith, da.small, db.small) in
    let low : v % 16 ≡ db.value = omega (arith, da.small, db.small) in
    ap encode_lower (sym tail.2)
    ∙ ap (λ n. slice_index lower_digits n ∷ slice_index lower_digits (v % 16) ∷ encode_lower tail.0) high
    ∙ ap (λ n. slice_index lower_digits da.value ∷ slice_index lower_digits n ∷ encode_lower tail.0) low
    ∙ ap (λ n. n ∷ slice_index lower_digits db.value ∷ encode_lower tail.0) da.back
    ∙ ap (λ n. a ∷ n ∷ encode_lower tail.0) db.back
    ∙ ap (λ rs. a ∷ b ∷ rs) left

-- an even text decodes by pairs, and an odd one doesn't
of_pairs : (text bytes : List ℕ) → decode_of text ≡ Ok bytes → decode_pairs 0 text ≡ Ok bytes
of_pairs text bytes h = grind (arith, h)

-- some bytes are printed as pairs
some_bytes : (text bytes : List ℕ) → nat_le 2 (length text) ≡ true → encode_lower bytes ≡ text → bytes_text bytes ≡ text
unfolding encode_with
some_bytes text [] long e = let none : 0 ≡ length text = ap length e in grind (arith, long, none)
some_bytes text (b ∷ bytes) long e = e

-- digits that are read are printed so
pub digits_back : (text bytes : List ℕ) → are_digits text ≡ true → decode_of text ≡ Ok bytes → bytes_text bytes ≡ text
digits_back text bytes digits h =
    let parts = and_parts (nat_le 2 (length text) && nat_le (length text) 8192) (list_all is_hex_digit text) digits in
    let long = and_parts (nat_le 2 (length text)) (nat_le (length text) 8192) parts.0 in
    some_bytes text bytes long.0 (pairs_back 0 text bytes parts.1 (of_pairs text bytes h))

-- what holds of the value of either case
pub if_some : {X : Type 0} (o : Option X) (P : Type 0) (Q : X → Type 0) → MatchOption o P Q → IfSome o Q
if_some (Some x) P Q h = h
if_some None P Q h = tt
