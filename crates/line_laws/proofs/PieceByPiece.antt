-- Each piece of a line, by how far the bytes follow it and as it is read.
use Rattle.std.proofs.Common.{◌≡◌, ℕ, ◌+◌, ◌<◌, ◌≤◌, ◌==◌, ◌&&◌, Bool, true, false, nat_le, min, List, ◌∷◌, length, take, drop, map, get_or, refl, sym, ap, ◌∙◌, inl, inr, Some, arith}
use Rattle.std.specs.List.{prefix_len}
use Rattle.std.specs.Char.{is_ascii_digit}
use Rattle.std.specs.Str.Parse.{digits_value}
use Rattle.std.proofs.lemmas.Bool.{and_parts, cases_lt}
use Rattle.std.proofs.lemmas.List.{drop_more}
use Rattle.std.proofs.lemmas.List.Sums.{prefix_len-le-length, prefix_len_passes}
use Rattle.std.proofs.lemmas.List.Folds.{length-prefix_len}
use Rattle.text_rules.specs.FieldBytes.{pick}
use Rattle.text_rules.specs.LineForms.{Reach, reach_of_number, reach_of_flags, longest, is_numeral as is_form_numeral}
use Rattle.text_rules.specs.ReadLine.{◌>>=◌, where_true, number_at, is_numeral}
use Rattle.text_rules.specs.ReadEvent.{flags_at, flags_before, is_flag}
use Rattle.line_laws.proofs.Digits.{digits_at_front, take_digits}
use Rattle.line_laws.proofs.Numerals.{same_numeral, longest-le, longest_numeral, longest_most}
use Rattle.line_laws.proofs.FieldByField.{if_read}

-- no line of what follows begins with a digit
abbrev pub Stops : (List ℕ → Bool) → Type 0
Stops next = (b : ℕ) (rest : List ℕ) → 48 ≤ b → next (b ∷ rest) ≡ false

abbrev pub no_reach : Reach
no_reach = record { count = 0; is_whole = false }

-- a number of n digits, where its limit below holds
abbrev pub reach_to : ℕ → List ℕ → ℕ → Reach
reach_to low bs n = pick (nat_le low (digits_value 10 (take n bs))) (record { count = n; is_whole = nat_le 1 n }) no_reach

-- how many digits the bytes begin with
abbrev pub digits_in : List ℕ → ℕ
digits_in bs = prefix_len is_ascii_digit bs

-- whether the digits at the front are a number within two limits
abbrev pub is_number : ℕ → ℕ → List ℕ → Bool
is_number low high bs =
    is_numeral (take (digits_in bs) bs) && nat_le low (digits_value 10 (take (digits_in bs) bs)) && nat_le (digits_value 10 (take (digits_in bs) bs)) high

pub number_read : (low high : ℕ) (bs : List ℕ) → number_at low high bs ≡ (where_true (is_number low high bs) (digits_value 10 (take (digits_in bs) bs)) >>= (λ v. Some (v, drop (digits_in bs) bs)))
unfolding number_at
number_read low high bs = refl

-- the digits of a number are taken whole
pub whole_number : (low high : ℕ) (bs : List ℕ) → high < 10000000000 → is_number low high bs ≡ true
    → reach_of_number low high bs ≡ record { count = digits_in bs; is_whole = true }
whole_number low high bs small good =
    let d : ℕ = digits_in bs in
    let ds : List ℕ = take d bs in
    let len : length ds ≡ d = length-prefix_len is_ascii_digit bs in
    let parts = and_parts (is_numeral ds && nat_le low (digits_value 10 ds)) (nat_le (digits_value 10 ds) high) good in
    let inner = and_parts (is_numeral ds) (nat_le low (digits_value 10 ds)) parts.0 in
    let some : 1 ≤ length ds = grind (arith, inner.0) in
    let few : length ds ≤ 10 = grind (arith, inner.0) in
    let numeral : is_form_numeral high ds ≡ true =
    same_numeral ds high (digits_at_front bs) small some ∙ (ap (λ t. t && nat_le (digits_value 10 ds) high) inner.0 ∙ parts.1) in
    let all : min 20 d ≡ d = omega (arith, len, few) in
    let least = longest_most high d bs d (omega (arith, len, some)) (omega arith) numeral in
    let most = longest-le high d bs in
    let n : longest high (min 20 d) bs ≡ d = ap (λ m. longest high m bs) all ∙ omega (arith, least, most) in
    let positive : nat_le 1 d ≡ true = grind (arith, len, some) in
    ap (reach_to low bs) n
    ∙ (ap (λ t. pick t (record { count = d; is_whole = nat_le 1 d }) no_reach) inner.1 ∙ ap (λ t. record { count = d; is_whole = t }) positive)

-- a shorter number stands before a digit
part_number : (low high : ℕ) (bs : List ℕ) (next : List ℕ → Bool) (n : ℕ) → high < 10000000000 → is_number low high bs ≡ false → Stops next
    → n ≤ digits_in bs → (1 ≤ n → is_form_numeral high (take n bs) ≡ true)
    → pick (reach_to low bs n).is_whole (next (drop (reach_to low bs n).count bs)) false ≡ false
part_number low high bs next n small bad stops most good = by (nat_le low (digits_value 10 (take n bs))) refl
  where
    digit : n < digits_in bs → next (drop n bs) ≡ false
    digit less =
        let whole = prefix_len-le-length is_ascii_digit bs in
        let passes = prefix_len_passes is_ascii_digit bs n 0 less in
        ap next (drop_more bs n 0 (omega (arith, whole, less))) ∙ stops (get_or bs n 0) (drop (n + 1) bs) (grind (arith, passes))

    all : 1 ≤ n → nat_le low (digits_value 10 (take n bs)) ≡ true → n ≡ digits_in bs → next (drop n bs) ≡ false
    all some least same =
        let len : length (take n bs) ≡ n = ap (λ m. length (take m bs)) same ∙ (length-prefix_len is_ascii_digit bs ∙ sym same) in
        let digits = take_digits bs (digits_in bs) n most (digits_at_front bs) in
        let numeral = sym (same_numeral (take n bs) high digits small (omega (arith, len, some))) ∙ good some in
        let parts = and_parts (is_numeral (take n bs)) (nat_le (digits_value 10 (take n bs)) high) numeral in
        let whole : is_number low high bs ≡ true =
        ap (λ m. is_numeral (take m bs) && nat_le low (digits_value 10 (take m bs)) && nat_le (digits_value 10 (take m bs)) high) (sym same)
        ∙ (ap (λ t. t && nat_le low (digits_value 10 (take n bs)) && nat_le (digits_value 10 (take n bs)) high) parts.0
        ∙ (ap (λ t. t && nat_le (digits_value 10 (take n bs)) high) least ∙ parts.1)) in
        absurd (let none : true ≡ false = sym whole ∙ bad in cc)

    either : 1 ≤ n → nat_le low (digits_value 10 (take n bs)) ≡ true → next (drop n bs) ≡ false
    either some least = elim (cases_lt n (digits_in bs)) [ inl less ↦ digit less | inr top ↦ all some least (omega (arith, top, most)) ]

    some_by : (t : Bool) → nat_le 1 n ≡ t → nat_le low (digits_value 10 (take n bs)) ≡ true → pick t (next (drop n bs)) false ≡ false
    some_by true h least = either (grind (arith, h)) least
    some_by false h least = refl

    by : (t : Bool) → nat_le low (digits_value 10 (take n bs)) ≡ t
        → pick (pick t (record { count = n; is_whole = nat_le 1 n }) no_reach).is_whole (next (drop (pick t (record { count = n; is_whole = nat_le 1 n }) no_reach).count bs)) false
        ≡ false
    by true h = some_by (nat_le 1 n) refl h
    by false h = refl

pub number_reach : (low high : ℕ) (bs : List ℕ) (next : List ℕ → Bool) → high < 10000000000 → Stops next
    → if_read (number_at low high bs) next ≡ pick (reach_of_number low high bs).is_whole (next (drop (reach_of_number low high bs).count bs)) false
number_reach low high bs next small stops = ap (λ o. if_read o next) (number_read low high bs) ∙ by (is_number low high bs) refl
  where
    by : (t : Bool) → is_number low high bs ≡ t
        → if_read (where_true t (digits_value 10 (take (digits_in bs) bs)) >>= (λ v. Some (v, drop (digits_in bs) bs))) next
        ≡ pick (reach_of_number low high bs).is_whole (next (drop (reach_of_number low high bs).count bs)) false
    by true h = sym (ap (λ r. pick r.is_whole (next (drop r.count bs)) false) (whole_number low high bs small h))
    by false h =
        let n : ℕ = longest high (min 20 (digits_in bs)) bs in
        let le = longest-le high (min 20 (digits_in bs)) bs in
        sym (part_number low high bs next n small h stops (omega (arith, le)) (λ some. longest_numeral high (min 20 (digits_in bs)) bs some))

-- flags
long_flags : (bs : List ℕ) (next : List ℕ → Bool) → Stops next → 16 < prefix_len is_flag bs → next (drop 16 bs) ≡ false
long_flags bs next stops more =
    let whole = prefix_len-le-length is_flag bs in
    let passes = prefix_len_passes is_flag bs 16 0 more in
    ap next (drop_more bs 16 0 (omega (arith, whole, more))) ∙ stops (get_or bs 16 0) (drop 17 bs) (grind (arith, passes))

flags_by : (bs : List ℕ) (next : List ℕ → Bool) (f m : ℕ) → (16 < f → next (drop 16 bs) ≡ false) → m ≡ min 16 f
    → if_read (flags_before f bs) next ≡ pick (nat_le 1 m) (next (drop m bs)) false
flags_by bs next f m long same = elim (cases_lt 16 f) [
  | inl more ↦
      let top : m ≡ 16 = omega (arith, same, more) in
      let over : (nat_le 1 f && nat_le f 16) ≡ false = grind (arith, more) in
      ap (λ t. if_read (where_true t (map (λ b. b == 49) (take f bs), drop f bs)) next) over
      ∙ sym (ap (λ k. pick (nat_le 1 k) (next (drop k bs)) false) top ∙ long more)
  | inr less ↦
      let all : m ≡ f = omega (arith, same, less) in
      let test : (nat_le 1 f && nat_le f 16) ≡ nat_le 1 f = grind (arith, less) in
      ap (λ t. if_read (where_true t (map (λ b. b == 49) (take f bs), drop f bs)) next) test
      ∙ (by (nat_le 1 f) ∙ sym (ap (λ k. pick (nat_le 1 k) (next (drop k bs)) false) all))
]
  where
    by : (t : Bool) → if_read (where_true t (map (λ b. b == 49) (take f bs), drop f bs)) next ≡ pick t (next (drop f bs)) false
    by true = refl
    by false = refl

pub flags_reach : (bs : List ℕ) (next : List ℕ → Bool) → Stops next
    → if_read (flags_at bs) next ≡ pick (reach_of_flags bs).is_whole (next (drop (reach_of_flags bs).count bs)) false
unfolding flags_at
flags_reach bs next stops = flags_by bs next (prefix_len is_flag bs) (min 16 (prefix_len is_flag bs)) (long_flags bs next stops) refl

-- a number ends within the bytes
pub number_most : (low high : ℕ) (bs : List ℕ) → (reach_of_number low high bs).count ≤ length bs
number_most low high bs = by (nat_le low (digits_value 10 (take (longest high (min 20 (digits_in bs)) bs) bs)))
  where
    by : (t : Bool) → (pick t (record { count = longest high (min 20 (digits_in bs)) bs; is_whole = nat_le 1 (longest high (min 20 (digits_in bs)) bs) }) no_reach).count ≤ length bs
    by true =
        let le = longest-le high (min 20 (digits_in bs)) bs in
        let whole = prefix_len-le-length is_ascii_digit bs in
        omega (arith, le, whole)
    by false = omega arith
