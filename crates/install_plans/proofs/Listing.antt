-- Lists that are made in loops.
use Rattle.std.proofs.Common.{◌≡◌, ℕ, zero, suc, ◌+◌, ◌-◌, ◌<◌, ◌≤◌, nat_lt, false, List, [], ◌∷◌, ◌++◌, length, get_or, drop, refl, ap, sym, ◌∙◌, arith}
use Rattle.std.proofs.lemmas.Bool.Decides.{nat_tests}
use Rattle.std.proofs.lemmas.List.{append_assoc, append-nil}
use Rattle.std.proofs.Math.ListN.{drop_of_length-le}
use Rattle.node_rules.specs.Words.{pick}
use Rattle.node_rules.specs.LockTable.{pages_from}
use Rattle.lock_table.proofs.Pages.{pages_first}
use Rattle.install_plans.proofs.Settled.{front}

-- one more page
pub pages_step : (out more : List ℕ) (n i step p end : ℕ) → i < n → p < end → more ≡ out ++ p ∷ []
    → more ++ pages_from (n - (i + 1)) step (p + step) end ≡ out ++ pages_from (n - i) step p end
pages_step out more n i step p end within low made =
    let fuel : n - i ≡ suc (n - (i + 1)) = omega (arith, within) in
    let rest = pages_from (n - (i + 1)) step (p + step) end in
    ap (λ l. l ++ rest) made
    ∙ (append_assoc out (p ∷ []) rest
    ∙ ap (λ l. out ++ l) (sym (ap (λ k. pages_from k step p end) fuel ∙ pages_first (n - (i + 1)) step p end low)))

pages_none : (n step p end : ℕ) → end ≤ p → pages_from n step p end ≡ []
unfolding pages_from
pages_none zero step p end past = refl
pages_none (suc n) step p end past = ap (λ b. pick b (p ∷ pages_from n step (p + step) end) []) (not_below p end past)
  where
    not_below : (p end : ℕ) → end ≤ p → nat_lt p end ≡ false
    not_below p end past = grind (arith, nat_tests)

-- no more pages
pub pages_past : (out : List ℕ) (n step p end : ℕ) → end ≤ p → out ≡ out ++ pages_from n step p end
pages_past out n step p end past = sym (ap (λ l. out ++ l) (pages_none n step p end past) ∙ append-nil out)

pub pages_end : (out : List ℕ) (n i step p end : ℕ) → n ≤ i → out ≡ out ++ pages_from (n - i) step p end
unfolding pages_from
pages_end out n i step p end past =
    let none : n - i ≡ 0 = omega (arith, past) in
    sym (ap (λ k. out ++ pages_from k step p end) none ∙ append-nil out)

-- one more item of a list
pub items_step : {X : Type 0} (out more xs : List X) (i : ℕ) (d x : X) → i < length xs → x ≡ get_or xs i d → more ≡ out ++ x ∷ [] → more ++ drop (i + 1) xs ≡ out ++ drop i xs
items_step out more xs i d x within is made =
    ap (λ l. l ++ drop (i + 1) xs) made
    ∙ (append_assoc out (x ∷ []) (drop (i + 1) xs)
    ∙ ap (λ l. out ++ l) (ap (λ y. y ∷ drop (i + 1) xs) is ∙ sym (front xs i d within)))

pub items_end : {X : Type 0} (out xs : List X) (i : ℕ) → length xs ≤ i → out ≡ out ++ drop i xs
items_end out xs i past = sym (ap (λ l. out ++ l) (drop_of_length-le xs past) ∙ append-nil out)
