-- Digits at the front of some bytes, and the numbers that they write.
use Rattle.std.proofs.Common.{◌≡◌, ℕ, ◌+◌, ◌^◌, ◌<◌, ◌≤◌, Bool, true, false, cond, List, [], ◌∷◌, length, take, zero, suc, refl, arith}
use Rattle.std.specs.List.{prefix_len}
use Rattle.std.specs.Char.{is_ascii_digit}
use Rattle.std.specs.Int.{IsInRange}
use Rattle.std.specs.Str.Parse.{AllDigits, digits_value}
use Rattle.std.proofs.Math.Nat.{pow-le-pow_right}
use Rattle.std.proofs.lemmas.Int.Digits.{digits_value-lt}
use Rattle.std.proofs.lemmas.Str.Parse.{tells_digits}

-- a byte that passes is a digit
digit_range : (b : ℕ) → is_ascii_digit b ≡ true → IsInRange 48 57 b
digit_range b h = grind (arith, h)

front_case : (b : ℕ) (bs : List ℕ) (t : Bool) → is_ascii_digit b ≡ t → AllDigits 10 (take (prefix_len is_ascii_digit bs) bs)
    → AllDigits 10 (take (cond t (1 + prefix_len is_ascii_digit bs) 0) (b ∷ bs))
front_case b bs false h rest = tt
front_case b bs true h rest =
    let n : ℕ = prefix_len is_ascii_digit bs in
    let e : 1 + n ≡ suc n = omega arith in
    rw e (tells_digits.more b (take n bs) (digit_range b h) rest)

-- the digits at the front are digits
pub digits_at_front : (bs : List ℕ) → AllDigits 10 (take (prefix_len is_ascii_digit bs) bs)
digits_at_front [] = tt
digits_at_front (b ∷ bs) = front_case b bs (is_ascii_digit b) refl (digits_at_front bs)

-- ten digits at most write a number below 10 ^ 10
pub ten_digits : (ds : List ℕ) → AllDigits 10 ds → length ds ≤ 10 → digits_value 10 ds < 10000000000
ten_digits ds all few =
    let below = digits_value-lt 10 ds all in
    let most : 10 ^ length ds ≤ 10 ^ 10 = pow-le-pow_right (omega arith) few in
    omega (arith, below, most)

-- a front of digits is digits
pub take_digits : (ds : List ℕ) (m n : ℕ) → n ≤ m → AllDigits 10 (take m ds) → AllDigits 10 (take n ds)
take_digits [] m zero le all = tt
take_digits [] m (suc n) le all = tt
take_digits (d ∷ ds) m zero le all = tt
take_digits (d ∷ ds) zero (suc n) le all = absurd (omega (arith, le))
take_digits (d ∷ ds) (suc m) (suc n) le all = (all.0, take_digits ds m n (omega (arith, le)) all.1)
