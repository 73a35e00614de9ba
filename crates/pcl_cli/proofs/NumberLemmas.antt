-- A word without a sign and without leading zeros, and the number that is read of it.
use Rattle.std.proofs.Common.{◌≡◌, ◌≢◌, ℕ, ◌^◌, ◌<◌, ◌≤◌, ◌&&◌, Bool, true, false, nat_le, List, [], ◌∷◌, length, get_or, None, refl, subst, arith}
use Rattle.std.specs.List.{list_all}
use Rattle.std.specs.Char.{is_ascii_digit}
use Rattle.std.specs.Str.Parse.{AllDigits, IsNumeral, digits_value, without_leading_plus}
use Rattle.std.proofs.lemmas.Str.Parse.{tells_digits, without_leading_plus_none}
use Rattle.std.specs.Int.{IsInRange}
use Rattle.text_rules.specs.ReadLine.{is_numeral}
use Rattle.pcl_cli.specs.MakeWords.{is_plain, number_of_word}

digit_range : (b : ℕ) → is_ascii_digit b ≡ true → IsInRange 48 57 b
digit_range b h = grind (arith, h)

both_true : (a b : Bool) → (a && b) ≡ true → (a ≡ true) × (b ≡ true)
both_true true true is = (refl, refl)
both_true true false is = absurd (cc)
both_true false b is = absurd (cc)

all_digits : (bs : List ℕ) → list_all is_ascii_digit bs ≡ true → AllDigits 10 bs
all_digits [] all = tt
all_digits (b ∷ bs) all =
    let parts = both_true (is_ascii_digit b) (list_all is_ascii_digit bs) all in
    tells_digits.more b bs (digit_range b parts.0) (all_digits bs parts.1)

first_digit : (bs : List ℕ) → list_all is_ascii_digit bs ≡ true → get_or bs 0 0 ≢ 43
first_digit [] all = grind arith
first_digit (b ∷ bs) all =
    let parts = both_true (is_ascii_digit b) (list_all is_ascii_digit bs) all in
    let range = digit_range b parts.0 in
    λ plus. absurd (omega (arith, range.0, plus))

some_digit : (bs : List ℕ) → is_numeral bs ≡ true → 0 < length bs
some_digit [] is = absurd (cc)
some_digit (b ∷ bs) is = omega arith

-- a plain word is read whole
pub without_plus : (word : List ℕ) → is_plain word ≡ true → without_leading_plus word ≡ word
without_plus word plain = without_leading_plus_none word (first_digit word (both_true (list_all is_ascii_digit word) (is_numeral word) plain).0)

pub plain_numeral : (word : List ℕ) → is_plain word ≡ true → IsNumeral 10 word
plain_numeral word plain =
    let parts = both_true (list_all is_ascii_digit word) (is_numeral word) plain in
    (some_digit word parts.1, all_digits word parts.0)

not_below : (n : ℕ) → (n < 4294967296 → ⊥) → 4294967296 ≤ n
not_below n none = grind (arith, none)

-- a number above the last one is none
too_large : (a : Bool) (value high : ℕ) → high < value → (a && nat_le value high) ≡ false
too_large true value high more = grind (arith, more)
too_large false value high more = refl

large : (word : List ℕ) → IsNumeral 10 word → (IsNumeral 10 word × (digits_value 10 word < 2 ^ 32) → ⊥) → 4294967296 ≤ digits_value 10 word
large word numeral refused = not_below (digits_value 10 word) (λ less. refused (numeral, less))

pub no_number : (low high : ℕ) (word : List ℕ) → high ≤ 4294967295 → is_plain word ≡ true
    → (IsNumeral 10 (without_leading_plus word) × (digits_value 10 (without_leading_plus word) < 2 ^ 32) → ⊥) → None ≡ number_of_word low high word
no_number low high word most plain none =
    let refused : IsNumeral 10 word × (digits_value 10 word < 2 ^ 32) → ⊥ = subst (λ l. IsNumeral 10 l × (digits_value 10 l < 2 ^ 32) → ⊥) (without_plus word plain) none in
    let value : 4294967296 ≤ digits_value 10 word = large word (plain_numeral word plain) refused in
    rw (plain, too_large (nat_le low (digits_value 10 word)) (digits_value 10 word) high (omega (arith, value, most))) refl
