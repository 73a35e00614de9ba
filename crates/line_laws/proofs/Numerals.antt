-- Numbers in a line: what their digits are in the words of the reader and in those of the forms.
use Rattle.std.proofs.Common.{◌≡◌, ℕ, zero, suc, ◌+◌, ◌<◌, ◌≤◌, ◌==◌, ◌&&◌, ◌||◌, Bool, true, false, not, nat_le, nat_lt, List, length, take, get_or, refl, sym, ap, ◌∙◌, inl, inr, arith}
use Rattle.std.specs.Str.Parse.{AllDigits, digits_value}
use Rattle.std.proofs.lemmas.Fmt.{decimal-digits_value, length-decimal-le}
use Rattle.std.proofs.lemmas.Str.Parse.{numerals_by_value, tells_digits, digit_at}
use Rattle.std.proofs.lemmas.Bool.{cases_lt}
use Rattle.text_rules.specs.FieldBytes.{pick}
use Rattle.text_rules.specs.LineForms.{longest, is_numeral as is_form_numeral}
use Rattle.text_rules.specs.ReadLine.{is_numeral}

numeral_case : (n d v high : ℕ) → 1 ≤ n → 48 ≤ d → (v ≤ high → 48 < d → n ≤ 10)
    → ((n == 1 || nat_lt 48 d) && nat_le v high) ≡ (nat_le 1 n && nat_le n 10 && (n == 1 || not (d == 48)) && nat_le v high)
numeral_case n d v high some digit few = grind (arith, few)

-- digits with a value up to a limit, and no zero in front, are ten at most
few_digits : (ds : List ℕ) (high : ℕ) → AllDigits 10 ds → high < 10000000000 → 1 ≤ length ds → digits_value 10 ds ≤ high → 48 < get_or ds 0 0 → length ds ≤ 10
few_digits ds high all small some below first =
    let back = decimal-digits_value (numerals_by_value (AllDigits 10) tells_digits) ds all (omega (arith, some)) (λ e. absurd (omega (arith, e, first))) (omega (arith, below, small)) in
    let len = length-decimal-le 10 (digits_value 10 ds) (omega arith) (omega (arith, below, small)) (omega (arith, below, small)) in
    omega (arith, ap length back, len)

-- both words for a numeral agree
pub same_numeral : (ds : List ℕ) (high : ℕ) → AllDigits 10 ds → high < 10000000000 → 1 ≤ length ds
    → is_form_numeral high ds ≡ (is_numeral ds && nat_le (digits_value 10 ds) high)
same_numeral ds high all small some =
    let digit = digit_at ds 0 all (omega (arith, some)) in
    numeral_case (length ds) (get_or ds 0 0) (digits_value 10 ds) high some (omega (arith, digit.0)) (λ below first. few_digits ds high all small some below first)

-- the longest front that is a number
pub longest-le : (high n : ℕ) (bs : List ℕ) → longest high n bs ≤ n
longest-le high zero bs = omega arith
longest-le high (suc n) bs = by (is_form_numeral high (take (n + 1) bs)) (longest-le high n bs)
  where
    by : (t : Bool) → longest high n bs ≤ n → pick t (n + 1) (longest high n bs) ≤ suc n
    by true h = omega arith
    by false h = omega (arith, h)

pub longest_numeral : (high n : ℕ) (bs : List ℕ) → 1 ≤ longest high n bs → is_form_numeral high (take (longest high n bs) bs) ≡ true
longest_numeral high zero bs some = absurd (omega (arith, some))
longest_numeral high (suc n) bs some = by (is_form_numeral high (take (n + 1) bs)) refl (longest_numeral high n bs) some
  where
    by : (t : Bool) → is_form_numeral high (take (n + 1) bs) ≡ t
        → (1 ≤ longest high n bs → is_form_numeral high (take (longest high n bs) bs) ≡ true)
        → 1 ≤ pick t (n + 1) (longest high n bs) → is_form_numeral high (take (pick t (n + 1) (longest high n bs)) bs) ≡ true
    by true h go s = h
    by false h go s = go s

pub longest_most : (high n : ℕ) (bs : List ℕ) (k : ℕ) → 1 ≤ k → k ≤ n → is_form_numeral high (take k bs) ≡ true → k ≤ longest high n bs
longest_most high zero bs k some most good = absurd (omega (arith, some, most))
longest_most high (suc n) bs k some most good = by (is_form_numeral high (take (n + 1) bs)) refl (λ less. longest_most high n bs k some less good)
  where
    by : (t : Bool) → is_form_numeral high (take (n + 1) bs) ≡ t → (k ≤ n → k ≤ longest high n bs) → k ≤ pick t (n + 1) (longest high n bs)
    by true h go = omega (arith, most)
    by false h go = go (elim (cases_lt n k) [
      | inl top ↦ let e : k ≡ n + 1 = omega (arith, top, most) in absurd (let bad : true ≡ false = sym good ∙ (ap (λ i. is_form_numeral high (take i bs)) e ∙ h) in cc)
      | inr below ↦ below
    ])
