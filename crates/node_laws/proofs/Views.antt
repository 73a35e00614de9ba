-- A view that a node may install: where its partitions' owners stay, and when the node was born.
use Rattle.std.proofs.Common.{◌≡◌, refl, ap, subst, ◌∙◌, sym, ℕ, zero, suc, ◌+◌, ◌<◌, ◌==◌, ◌||◌, not, Bool, true, false, List, [], ◌∷◌, Option, Some, None, Result, Ok, Err, arith}
use Rattle.std.specs.Bool.{beq}
use Rattle.std.specs.List.{list_all}
use Rattle.std.proofs.lemmas.Bool.Decides.{nat_tests}
use Rattle.pcl_base.specs.Limits.{Sizes}
use Rattle.run_rules.specs.Views.{View, owner_of, since_of, next, follows, is_that, same_view, same_flags, same_numbers, count_from}
use Rattle.rule_laws.specs.LaterViews.{IsWhole, IsMoved}
use Rattle.rule_laws.proofs.Successors.{next_moves_law}
use Rattle.node_rules.specs.Words.{pick}
use Rattle.node_rules.specs.InstallRule.{owned_before}
use Rattle.node_rules.specs.Refusals.{owns_new}
use Rattle.home_laws.proofs.Words.{and_true}

numbers_equal : (xs ys : List ℕ) → same_numbers xs ys ≡ true → xs ≡ ys
unfolding same_numbers
numbers_equal [] [] e = refl
numbers_equal [] (y ∷ ys) e = absurd (cc)
numbers_equal (x ∷ xs) [] e = absurd (cc)
numbers_equal (x ∷ xs) (y ∷ ys) e =
    let both = and_true (x == y) (same_numbers xs ys) e in
    let here : x ≡ y = grind (arith, nat_tests, both.0) in
    let rest = numbers_equal xs ys both.1 in
    λ i. here i ∷ rest i

flag_equal : (x y : Bool) → beq x y ≡ true → x ≡ y
flag_equal true true e = refl
flag_equal true false e = absurd (cc)
flag_equal false true e = absurd (cc)
flag_equal false false e = refl

flags_equal : (xs ys : List Bool) → same_flags xs ys ≡ true → xs ≡ ys
unfolding same_flags
flags_equal [] [] e = refl
flags_equal [] (y ∷ ys) e = absurd (cc)
flags_equal (x ∷ xs) [] e = absurd (cc)
flags_equal (x ∷ xs) (y ∷ ys) e =
    let both = and_true (beq x y) (same_flags xs ys) e in
    let here = flag_equal x y both.0 in
    let rest = flags_equal xs ys both.1 in
    λ i. here i ∷ rest i

view_equal : (v w : View) → same_view v w ≡ true → v ≡ w
view_equal v w e =
    let d = and_true _ (same_numbers v.born w.born) e in
    let c = and_true _ (same_numbers v.since w.since) d.0 in
    let b = and_true _ (same_numbers v.owners w.owners) c.0 in
    let a = and_true (v.epoch == w.epoch) (same_flags v.live w.live) b.0 in
    let epoch : v.epoch ≡ w.epoch = grind (arith, nat_tests, a.0) in
    let live = flags_equal v.live w.live a.1 in
    let owners = numbers_equal v.owners w.owners b.1 in
    let since = numbers_equal v.since w.since c.1 in
    let born = numbers_equal v.born w.born d.1 in
    λ i. record { epoch = epoch i; live = live i; owners = owners i; since = since i; born = born i }

that_one : (r : Result View ℕ) (v : View) → is_that r v ≡ true → r ≡ Ok v
that_one (Ok w) v e = ap (λ (x : View). Ok x) (view_equal w v e)
that_one (Err rule) v e = absurd (cc)

-- the next view of a whole one
pub moved_of : (c : Sizes) (v w : View) → IsWhole c v → follows c v w ≡ true → IsMoved v w
unfolding follows
moved_of c v w whole e = next_moves_law c v w w.live w.owners whole (that_one (next c v w.live w.owners) w e)

-- where a partition's owner isn't new, it is as before
abbrev pub KeepsOwners : ℕ → Option View → View → ℕ → Type 0
KeepsOwners nodes before v me = (q : ℕ) → q < nodes → (since_of v q == v.epoch) ≡ false → owned_before before q me ≡ owned_before (Some v) q me

pub moved_keeps : (c : Sizes) (v w : View) (me : ℕ) → IsWhole c v → IsMoved v w → KeepsOwners c.nodes (Some v) w me
moved_keeps c v w me whole moved q low old = by (owner_of v q == owner_of w q) refl
  where
    by : (b : Bool) → (owner_of v q == owner_of w q) ≡ b → (owner_of v q == me) ≡ (owner_of w q == me)
    by true e = let same : owner_of v q ≡ owner_of w q = grind (arith, nat_tests, e) in ap (λ (n : ℕ). n == me) same
    by false e =
        let since : since_of w q ≡ w.epoch = moved.since q (subst (λ (n : ℕ). q < n) (sym whole.since) low) ∙ ap (λ (b : Bool). pick b (since_of v q) w.epoch) e in
        absurd (grind (arith, nat_tests, since, old))

all_pass : (test : ℕ → Bool) (n a q : ℕ) → list_all test (count_from a n) ≡ true → q < n → test (a + q) ≡ true
unfolding count_from
all_pass test zero a q e low = absurd (omega (arith, low))
all_pass test (suc n) a zero e low =
    let both = and_true (test a) (list_all test (count_from (a + 1) n)) e in
    let same : a + 0 ≡ a = omega arith in
    ap test same ∙ both.0
all_pass test (suc n) a (suc q) e low =
    let both = and_true (test a) (list_all test (count_from (a + 1) n)) e in
    let same : a + suc q ≡ a + 1 + q = omega arith in
    ap test same ∙ all_pass test n (a + 1) q both.1 (omega (arith, low))

-- a node that begins owns new partitions alone
pub begins_keep : (v : View) (me nodes : ℕ) → list_all (owns_new v me) (count_from 0 nodes) ≡ true → KeepsOwners nodes None v me
begins_keep v me nodes e q low old = by (owner_of v q == me) (since_of v q == v.epoch) old (let same : 0 + q ≡ q = omega arith in subst (λ (n : ℕ). owns_new v me n ≡ true) same (all_pass (owns_new v me) nodes 0 q e low))
  where
    by : (a b : Bool) → b ≡ false → not a || b ≡ true → false ≡ a
    by true true f g = absurd (cc)
    by true false f g = absurd (cc)
    by false b f g = refl
