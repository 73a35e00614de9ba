-- A line that begins as one of a form does is followed at least so far.
use Rattle.std.proofs.Common.{◌≡◌, ℕ, zero, suc, ◌+◌, ◌-◌, ◌<◌, ◌≤◌, ◌==◌, ◌&&◌, ◌||◌, Bool, true, false, cond, nat_le, nat_lt, min, List, [], ◌∷◌, length, take, drop, get_or, length-take, length-drop, refl, sym, ap, ◌∙◌, subst, arith}
use Rattle.std.specs.List.{prefix_len}
use Rattle.std.specs.Char.{is_ascii_digit}
use Rattle.std.specs.Str.Parse.{AllDigits, digits_value}
use Rattle.std.proofs.lemmas.Bool.{and_parts}
use Rattle.std.proofs.lemmas.List.{take-take, drop-take}
use Rattle.std.proofs.lemmas.List.Folds.{length-prefix_len}
use Rattle.std.proofs.lemmas.Str.Parse.{digits_value-take-le, digit_at}
use Rattle.text_rules.specs.FieldBytes.{pick}
use Rattle.text_rules.specs.LineForms.{Reach, shared, shared_with, longest, is_numeral as is_form_numeral, reach_of_number, reach_of_flags, and_then, and_then_if}
use Rattle.text_rules.specs.ReadLine.{is_numeral}
use Rattle.text_rules.specs.ReadEvent.{is_flag}
use Rattle.line_laws.proofs.Digits.{digits_at_front}
use Rattle.line_laws.proofs.Numerals.{same_numeral, longest_most}
use Rattle.line_laws.proofs.PieceByPiece.{digits_in, is_number, whole_number, no_reach}

-- the bytes before k are the same
pub record Shares (k : ℕ) (xs ys : List ℕ) : Type 0 where
  pub same : take k xs ≡ take k ys
  pub first : k ≤ length xs
  pub second : k ≤ length ys

pub shares_less : (k m : ℕ) (xs ys : List ℕ) → m ≤ k → Shares k xs ys → Shares m xs ys
shares_less k m xs ys le s =
    let a = s.first in
    let b = s.second in
    record {
      same = sym (take-take m k xs le) ∙ (ap (take m) s.same ∙ take-take m k ys le);
      first = omega (arith, a, le);
      second = omega (arith, b, le);
    }

pub shares_behind : (k m : ℕ) (xs ys : List ℕ) → m ≤ k → Shares k xs ys → Shares (k - m) (drop m xs) (drop m ys)
shares_behind k m xs ys le s =
    let a = s.first in
    let b = s.second in
    let n : m + (k - m) ≡ k = omega (arith, le) in
    let x = length-drop m xs in
    let y = length-drop m ys in
    record {
      same =
          sym (drop-take m (k - m) xs)
          ∙ (ap (λ i. drop m (take i xs)) n ∙ (ap (drop m) s.same ∙ (ap (λ i. drop m (take i ys)) (sym n) ∙ drop-take m (k - m) ys)));
      first = omega (arith, a, x, le);
      second = omega (arith, b, y, le);
    }

same_head : (x y : ℕ) (xs ys : List ℕ) → x ∷ xs ≡ y ∷ ys → x ≡ y
same_head x y xs ys e = cc

same_tail : (x y : ℕ) (xs ys : List ℕ) → x ∷ xs ≡ y ∷ ys → xs ≡ ys
same_tail x y xs ys e = cc

pub shares_tail : (k x y : ℕ) (xs ys : List ℕ) → Shares (suc k) (x ∷ xs) (y ∷ ys) → Shares k xs ys
shares_tail k x y xs ys s =
    let a = s.first in
    let b = s.second in
    record { same = same_tail x y (take k xs) (take k ys) s.same; first = omega (arith, a); second = omega (arith, b) }

pub shares_head : (k x y : ℕ) (xs ys : List ℕ) → Shares (suc k) (x ∷ xs) (y ∷ ys) → x ≡ y
shares_head k x y xs ys s = same_head x y (take k xs) (take k ys) s.same

-- the front that passes
pub front_least : (p : ℕ → Bool) (k : ℕ) (xs ys : List ℕ) → Shares k xs ys → k ≤ prefix_len p ys → k ≤ prefix_len p xs
front_least p zero xs ys s le = omega arith
front_least p (suc k) [] ys s le = let a = s.first in absurd (omega (arith, a))
front_least p (suc k) (x ∷ xs) [] s le = absurd (omega (arith, le))
front_least p (suc k) (x ∷ xs) (y ∷ ys) s le = by (p y) refl le (λ less. front_least p k xs ys (shares_tail k x y xs ys s) less)
  where
    by : (t : Bool) → p y ≡ t → suc k ≤ cond t (1 + prefix_len p ys) 0 → (k ≤ prefix_len p ys → k ≤ prefix_len p xs) → suc k ≤ prefix_len p (x ∷ xs)
    by true h more go =
        let rest = go (omega (arith, more)) in
        let passes : p x ≡ true = ap p (shares_head k x y xs ys s) ∙ h in
        subst (λ t. suc k ≤ cond t (1 + prefix_len p xs) 0) (sym passes) (omega (arith, rest))
    by false h more go = absurd (omega (arith, more))

pub front_same : (p : ℕ → Bool) (k : ℕ) (xs ys : List ℕ) → Shares k xs ys → prefix_len p ys < k → prefix_len p xs ≡ prefix_len p ys
front_same p zero xs ys s less = absurd (omega (arith, less))
front_same p (suc k) [] ys s less = let a = s.first in absurd (omega (arith, a))
front_same p (suc k) (x ∷ xs) [] s less = let b = s.second in absurd (omega (arith, b))
front_same p (suc k) (x ∷ xs) (y ∷ ys) s less = by (p y) refl less (λ below. front_same p k xs ys (shares_tail k x y xs ys s) below)
  where
    by : (t : Bool) → p y ≡ t → cond t (1 + prefix_len p ys) 0 < suc k → (prefix_len p ys < k → prefix_len p xs ≡ prefix_len p ys)
        → prefix_len p (x ∷ xs) ≡ cond t (1 + prefix_len p ys) 0
    by true h more go =
        let passes : p x ≡ true = ap p (shares_head k x y xs ys s) ∙ h in
        ap (λ t. cond t (1 + prefix_len p xs) 0) passes ∙ ap (λ n. 1 + n) (go (omega (arith, more)))
    by false h more go =
        let passes : p x ≡ false = ap p (shares_head k x y xs ys s) ∙ h in
        ap (λ t. cond t (1 + prefix_len p xs) 0) passes

-- a word
eq_same : (n : ℕ) → (n == n) ≡ true
eq_same n = grind arith

pub word_least : (k : ℕ) (w xs : List ℕ) → Shares k xs w → k ≤ shared w xs
word_least zero w xs s = omega arith
word_least (suc k) [] xs s = let b = s.second in absurd (omega (arith, b))
word_least (suc k) (x ∷ w) [] s = let a = s.first in absurd (omega (arith, a))
word_least (suc k) (x ∷ w) (b ∷ xs) s =
    let rest = word_least k w xs (shares_tail k b x xs w s) in
    let test : (x == b) ≡ true = ap (λ y. x == y) (shares_head k b x xs w s) ∙ eq_same x in
    subst (λ t. suc k ≤ shared_with t (shared w xs)) (sym test) (omega (arith, rest))

-- a front of a numeral is one
numeral_test : (n m d v u high : ℕ) → 1 ≤ m → m ≤ n → u ≤ v → ((n == 1 || nat_lt 48 d) && nat_le v high) ≡ true → ((m == 1 || nat_lt 48 d) && nat_le u high) ≡ true
numeral_test n m d v u high some less below good = grind (arith, some, less, below, good)

same_first : (k : ℕ) (ds : List ℕ) → 1 ≤ k → get_or (take k ds) 0 0 ≡ get_or ds 0 0
same_first zero ds some = absurd (omega (arith, some))
same_first (suc k) [] some = refl
same_first (suc k) (d ∷ ds) some = refl

pub numeral_front : (high k : ℕ) (ds : List ℕ) → 1 ≤ k → k ≤ length ds → is_form_numeral high ds ≡ true → is_form_numeral high (take k ds) ≡ true
numeral_front high k ds some less good =
    let len : length (take k ds) ≡ k = length-take k ds ∙ omega (arith, less) in
    let below = digits_value-take-le 10 ds k (omega arith) in
    let test = numeral_test (length ds) k (get_or ds 0 0) (digits_value 10 ds) (digits_value 10 (take k ds)) high some less below good in
    ap (λ n. (n == 1 || nat_lt 48 (get_or (take k ds) 0 0)) && nat_le (digits_value 10 (take k ds)) high) len
    ∙ (ap (λ d. (k == 1 || nat_lt 48 d) && nat_le (digits_value 10 (take k ds)) high) (same_first k ds some) ∙ test)

-- a number that a line of the grammar begins with, and another line that begins alike
take_none : (k : ℕ) → take k (let none : List ℕ = [] in none) ≡ []
take_none zero = refl
take_none (suc k) = refl

number_value : (low : ℕ) (ds : List ℕ) → low ≤ 1 → AllDigits 10 ds → is_numeral ds ≡ true → low ≤ digits_value 10 ds → (k : ℕ) → 1 ≤ k → low ≤ digits_value 10 (take k ds)
number_value low [] le all good least k some = absurd (let bad : false ≡ true = good in cc)
number_value low (d ∷ ds) le all good least zero some = absurd (omega (arith, some))
number_value low (d ∷ []) le all good least (suc k) some = subst (λ l. low ≤ digits_value 10 (d ∷ l)) (sym (take_none k)) least
number_value low (d ∷ f ∷ ds) le all good least (suc k) some =
    let more = digits_value-take-le 10 (take (suc k) (d ∷ f ∷ ds)) 1 (omega arith) in
    let first : 48 < d = first_above in
    let one : digits_value 10 (take 1 (take (suc k) (d ∷ f ∷ ds))) ≡ digits_value 10 (d ∷ []) = refl in
    let value : digits_value 10 (d ∷ []) ≡ d - 48 = value_is in
    omega (arith, more, value, first, le)
  where
    first_above : 48 < d
    first_above = let range = digit_at (d ∷ f ∷ ds) 0 all (omega arith) in grind (arith, good, range.0)

    value_is : digits_value 10 (d ∷ []) ≡ d - 48
    value_is = let range = digit_at (d ∷ f ∷ ds) 0 all (omega arith) in grind (arith, range.0, range.1)

pub le_test : (m n : ℕ) → m ≤ n → nat_le m n ≡ true
le_test m n le = grind (arith, le)

-- where the digits go on beyond k, or end before it
pub number_short : (low high k : ℕ) (xs ys : List ℕ) → low ≤ 1 → high < 10000000000 → is_number low high ys ≡ true → Shares k xs ys → k ≤ digits_in ys
    → k ≤ (reach_of_number low high xs).count
number_short low high zero xs ys one small good s less = omega arith
number_short low high (suc k) xs ys one small good s less =
    let d : ℕ = digits_in ys in
    let ds : List ℕ = take d ys in
    let n : ℕ = suc k in
    let len : length ds ≡ d = length-prefix_len is_ascii_digit ys in
    let parts = and_parts (is_numeral ds && nat_le low (digits_value 10 ds)) (nat_le (digits_value 10 ds) high) good in
    let inner = and_parts (is_numeral ds) (nat_le low (digits_value 10 ds)) parts.0 in
    let few : length ds ≤ 10 = grind (arith, inner.0) in
    let some : 1 ≤ length ds = grind (arith, inner.0) in
    let least : low ≤ digits_value 10 ds = grind (arith, inner.1) in
    let whole : is_form_numeral high ds ≡ true =
    same_numeral ds high (digits_at_front ys) small some ∙ (ap (λ t. t && nat_le (digits_value 10 ds) high) inner.0 ∙ parts.1) in
    let part : take n ds ≡ take n xs = take-take n d ys less ∙ sym s.same in
    let front = numeral_front high n ds (omega arith) (omega (arith, len, less)) whole in
    let here : is_form_numeral high (take n xs) ≡ true = ap (is_form_numeral high) (sym part) ∙ front in
    let more = front_least is_ascii_digit n xs ys s less in
    let m : ℕ = longest high (min 20 (digits_in xs)) xs in
    let far : n ≤ m = longest_most high (min 20 (digits_in xs)) xs n (omega arith) (omega (arith, more, len, few, less)) here in
    let first = number_value low ds one (digits_at_front ys) inner.0 least n (omega arith) in
    let grown = digits_value-take-le 10 (take m xs) n (omega arith) in
    let inside : take n (take m xs) ≡ take n xs = take-take n m xs far in
    let values : digits_value 10 (take n (take m xs)) ≡ digits_value 10 (take n ds) = ap (digits_value 10) (inside ∙ sym part) in
    let test = le_test low (digits_value 10 (take m xs)) (omega (arith, grown, first, values)) in
    subst (λ t. n ≤ (pick t (record { count = m; is_whole = nat_le 1 m }) no_reach).count) (sym test) far

pub number_long : (low high k : ℕ) (xs ys : List ℕ) → high < 10000000000 → is_number low high ys ≡ true → Shares k xs ys → digits_in ys < k
    → reach_of_number low high xs ≡ record { count = digits_in ys; is_whole = true }
number_long low high k xs ys small good s less =
    let same : digits_in xs ≡ digits_in ys = front_same is_ascii_digit k xs ys s less in
    let d = shares_less k (digits_in ys) xs ys (omega (arith, less)) s in
    let digits : take (digits_in xs) xs ≡ take (digits_in ys) ys = ap (λ n. take n xs) same ∙ d.same in
    let here : is_number low high xs ≡ true =
    ap (λ l. is_numeral l && nat_le low (digits_value 10 l) && nat_le (digits_value 10 l) high) digits ∙ good in
    whole_number low high xs small here ∙ ap (λ n. record { count = n; is_whole = true }) same

-- flags
pub flags_short : (k : ℕ) (xs ys : List ℕ) → Shares k xs ys → k ≤ prefix_len is_flag ys → k ≤ 16 → k ≤ (reach_of_flags xs).count
flags_short k xs ys s less few = let more = front_least is_flag k xs ys s less in omega (arith, more, few)

pub flags_long : (k : ℕ) (xs ys : List ℕ) → Shares k xs ys → prefix_len is_flag ys < k → 1 ≤ prefix_len is_flag ys → prefix_len is_flag ys ≤ 16
    → reach_of_flags xs ≡ record { count = prefix_len is_flag ys; is_whole = true }
flags_long k xs ys s less some few =
    let same = front_same is_flag k xs ys s less in
    let n : min 16 (prefix_len is_flag xs) ≡ prefix_len is_flag ys = omega (arith, same, few) in
    let test = le_test 1 (prefix_len is_flag ys) some in
    ap (λ m. record { count = m; is_whole = nat_le 1 m }) n ∙ ap (λ t. record { count = prefix_len is_flag ys; is_whole = t }) test

-- a reach and what follows it
then_least : (r : Reach) (further : ℕ → Reach) (t : Bool) → r.count ≤ (and_then_if t r further).count
then_least r further true = omega arith
then_least r further false = omega arith

pub reach_least : (r : Reach) (further : ℕ → Reach) → r.count ≤ (and_then r further).count
reach_least r further = then_least r further r.is_whole

pub reach_then : (r : Reach) (further : ℕ → Reach) (n k : ℕ) → r ≡ record { count = n; is_whole = true } → n ≤ k → k - n ≤ (further n).count → k ≤ (and_then r further).count
reach_then r further n k is less more =
    subst (λ q. k ≤ (and_then q further).count) (sym is) (omega (arith, less, more))
