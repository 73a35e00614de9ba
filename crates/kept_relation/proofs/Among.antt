-- Each page of the database is among the pages of its partition.
use Rattle.std.proofs.Common.{◌≡◌, refl, ap, ℕ, zero, suc, ◌+◌, ◌*◌, ◌%◌, ◌/◌, ◌<◌, ◌≤◌, ◌==◌, ◌||◌, nat_lt, Bool, true, false, [], ◌∷◌, arith}
use Rattle.std.specs.List.{list_any}
use Rattle.std.proofs.lemmas.Bool.Decides.{nat_tests}
use Rattle.std.proofs.Math.Nat.{mod-add-div, div-le_self}
use Rattle.pcl_base.specs.Limits.{Sizes}
use Rattle.node_rules.specs.Words.{pick}
use Rattle.node_rules.specs.LockTable.{pages_from, pages_of}
use Rattle.node_rules.specs.NodeState.{partition}

or_true : (a b : Bool) → b ≡ true → a || b ≡ true
or_true true b e = refl
or_true false b e = e

listed : (n j w p s end : ℕ) → j < n → p ≡ s + j * w → p < end → list_any (λ x. x == p) (pages_from n w s end) ≡ true
unfolding pages_from
listed zero j w p s end few is low = absurd (omega (arith, few))
listed (suc n) zero w p s end few is low =
    let same : p ≡ s = omega (arith, is) in
    by (nat_lt s end) refl same
  where
    by : (b : Bool) → nat_lt s end ≡ b → p ≡ s → list_any (λ x. x == p) (pick b (s ∷ pages_from n w (s + w) end) []) ≡ true
    by true e f = ap (λ b. b || list_any (λ x. x == p) (pages_from n w (s + w) end)) (let here : (s == p) ≡ true = grind (arith, nat_tests, f) in here)
    by false e f = absurd (grind (arith, nat_tests, e, f, low))
listed (suc n) (suc j) w p s end few is low =
    let next : p ≡ s + w + j * w = grind (arith, is) in
    by (nat_lt s end) refl next (listed n j w p (s + w) end (omega (arith, few)) next low)
  where
    by : (b : Bool) → nat_lt s end ≡ b → p ≡ s + w + j * w → list_any (λ x. x == p) (pages_from n w (s + w) end) ≡ true
        → list_any (λ x. x == p) (pick b (s ∷ pages_from n w (s + w) end) []) ≡ true
    by true e f rest = or_true (s == p) (list_any (λ x. x == p) (pages_from n w (s + w) end)) rest
    by false e f rest = let below : s < end = omega (arith, f, low) in absurd (grind (arith, nat_tests, e, below))

pub page_among : (c : Sizes) (p : ℕ) → p < c.pages → list_any (λ x. x == p) (pages_of c (partition c p)) ≡ true
page_among c p low =
    let parts : p % c.nodes + c.nodes * (p / c.nodes) ≡ p = mod-add-div p c.nodes in
    let few : p / c.nodes ≤ p = div-le_self p c.nodes in
    listed c.pages (p / c.nodes) c.nodes p (partition c p) c.pages (omega (arith, few, low)) (grind (arith, parts)) low
