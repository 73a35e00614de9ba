-- Nodes that are started one by one.
use Rattle.std.proofs.Common.{◌≡◌, ℕ, suc, ◌+◌, ◌-◌, ◌<◌, ◌≤◌, List, [], ◌∷◌, refl, ap, ◌∙◌, sym, Bool, true, false, ◌&&◌, not, cond, set, arith}
use Rattle.run_rules.specs.Words.{pick}
use Rattle.run_rules.specs.Views.{View, is_live, count_from}
use Rattle.run_rules.specs.Ledger.{raise, returning}

count_next : (i k : ℕ) → count_from i (suc k) ≡ i ∷ count_from (i + 1) k
unfolding count_from
count_next i k = refl

left_next : (i n : ℕ) → i < n → count_from i (n - i) ≡ i ∷ count_from (i + 1) (n - (i + 1))
left_next i n less =
    let one : n - i ≡ suc (n - (i + 1)) = omega (arith, less) in ap (count_from i) one ∙ count_next i (n - (i + 1))

left_none : (i n : ℕ) → n ≤ i → count_from i (n - i) ≡ []
unfolding count_from
left_none i n past = let none : n - i ≡ 0 = omega (arith, past) in ap (count_from i) none

-- one node more is started
pub all_step : (i n : ℕ) (u v : List Bool) → i < n → v ≡ set u i true → raise (count_from (i + 1) (n - (i + 1))) v ≡ raise (count_from i (n - i)) u
all_step i n u v less is = ap (raise (count_from (i + 1) (n - (i + 1)))) is ∙ ap (λ ns. raise ns u) (sym (left_next i n less))

pub all_done : (i n : ℕ) (u w : List Bool) → n ≤ i → raise (count_from i (n - i)) u ≡ w → u ≡ w
all_done i n u w past h = ap (λ ns. raise ns u) (sym (left_none i n past)) ∙ h

picked : (a b : View) (i : ℕ) (ns : List ℕ) (u : List Bool) (k : Bool) → raise (returning a b ns) (pick k (set u i true) u) ≡ raise (cond k (i ∷ returning a b ns) (returning a b ns)) u
picked a b i ns u true = refl
picked a b i ns u false = refl

pub some_step : (a b : View) (i n : ℕ) (u v : List Bool) → i < n → v ≡ pick (is_live b.live i && not (is_live a.live i)) (set u i true) u
    → raise (returning a b (count_from (i + 1) (n - (i + 1)))) v ≡ raise (returning a b (count_from i (n - i))) u
some_step a b i n u v less is =
    ap (raise (returning a b (count_from (i + 1) (n - (i + 1))))) is
    ∙ picked a b i (count_from (i + 1) (n - (i + 1))) u (is_live b.live i && not (is_live a.live i))
    ∙ ap (λ ns. raise (returning a b ns) u) (sym (left_next i n less))

pub some_done : (a b : View) (i n : ℕ) (u w : List Bool) → n ≤ i → raise (returning a b (count_from i (n - i))) u ≡ w → u ≡ w
some_done a b i n u w past h = ap (λ ns. raise (returning a b ns) u) (sym (left_none i n past)) ∙ h
