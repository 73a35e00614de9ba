-- Each page of a partition is one of its pages.
use Rattle.std.proofs.Common.{◌≡◌, refl, sym, subst, ℕ, zero, suc, ◌+◌, ◌*◌, ◌/◌, ◌%◌, ◌<◌, ◌≤◌, nat_lt, Bool, true, false, [], ◌∷◌, Contains, arith}
use Rattle.std.proofs.lemmas.Bool.Decides.{nat_tests}
use Rattle.std.proofs.Math.Nat.{mod-add-div, div-le_self}
use Rattle.pcl_base.specs.Limits.{Sizes}
use Rattle.text_rules.specs.MessageBytes.{IsPageOf}
use Rattle.node_rules.specs.LockTable.{pages_from, pages_of}
use Rattle.node_rules.specs.Words.{pick}
use Rattle.rule_laws.proofs.Lists.{contains_here, contains_there}

-- the page that is j steps on
stepped : (n j w p s end : ℕ) → j < n → p ≡ s + j * w → p < end → Contains (pages_from n w s end) p
unfolding pages_from
stepped zero j w p s end few is low = absurd (omega (arith, few))
stepped (suc n) zero w p s end few is low =
    let same : p ≡ s = omega (arith, is) in
    by (nat_lt s end) refl same
  where
    by : (b : Bool) → nat_lt s end ≡ b → p ≡ s → Contains (pick b (s ∷ pages_from n w (s + w) end) []) p
    by true e f = subst (λ (k : ℕ). Contains (s ∷ pages_from n w (s + w) end) k) (sym f) (contains_here s (pages_from n w (s + w) end))
    by false e f = absurd (grind (arith, nat_tests, e, f, low))
stepped (suc n) (suc j) w p s end few is low =
    let next : p ≡ s + w + j * w = grind (arith, is) in
    by (nat_lt s end) refl next (stepped n j w p (s + w) end (omega (arith, few)) next low)
  where
    by : (b : Bool) → nat_lt s end ≡ b → p ≡ s + w + j * w → Contains (pages_from n w (s + w) end) p → Contains (pick b (s ∷ pages_from n w (s + w) end) []) p
    by true e f rest = contains_there s p (pages_from n w (s + w) end) rest
    by false e f rest = let below : s < end = omega (arith, f, low) in absurd (grind (arith, nat_tests, e, below))

pub page_is_listed : (c : Sizes) (q p : ℕ) → IsPageOf c q p → Contains (pages_of c q) p
page_is_listed c q p is =
    let parts : p % c.nodes + c.nodes * (p / c.nodes) ≡ p = mod-add-div p c.nodes in
    let few : p / c.nodes ≤ p = div-le_self p c.nodes in
    let low = is.0 in
    let rest = is.1 in
    stepped c.pages (p / c.nodes) c.nodes p q c.pages (omega (arith, few, low)) (grind (arith, parts, rest)) low
