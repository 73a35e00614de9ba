-- Views stand at the places of their epochs.
use Rattle.std.proofs.Common.{◌≡◌, refl, ap, ◌∙◌, ℕ, zero, suc, ◌+◌, ◌==◌, Bool, true, false, List, [], ◌∷◌, length, Some, None, arith}
use Rattle.std.specs.List.{slice_get}
use Rattle.std.proofs.lemmas.Bool.Decides.{nat_tests}
use Rattle.pcl_base.specs.Limits.{Sizes}
use Rattle.run_rules.specs.Views.{View, first}
use Rattle.node_rules.specs.Words.{pick}
use Rattle.cluster_rules.specs.Clusters.{view_of_epoch, last_or}
use Rattle.cluster_laws.specs.Sound.{FollowOn, AreViews}
use Rattle.cluster_laws.specs.ViewLaws.{LastViewIsWhole, ViewsAreWhole, ViewsAreNumbered}
use Rattle.cluster_laws.proofs.Views.{next_epoch, last_right, found_right}

-- a test that is known
same_number : {X : Type 0} (a b : ℕ) (x y : X) → a ≡ b → pick (a == b) x y ≡ x
same_number a b x y is = by (a == b) refl
  where
    by : (t : Bool) → (a == b) ≡ t → pick t x y ≡ x
    by true e = refl
    by false e = absurd (grind (arith, nat_tests, is))

other_number : {X : Type 0} (a k : ℕ) (x y : X) → pick (a == a + suc k) x y ≡ y
other_number a k x y = by (a == a + suc k) refl
  where
    by : (t : Bool) → (a == a + suc k) ≡ t → pick t x y ≡ y
    by true e = absurd (grind (arith, nat_tests))
    by false e = refl

placed : (c : Sizes) (v : View) (ws : List View) (e : ℕ) → FollowOn c v ws → view_of_epoch (v ∷ ws) (v.epoch + e) ≡ slice_get (v ∷ ws) e
unfolding view_of_epoch
placed c v ws zero f = same_number v.epoch (v.epoch + 0) (Some v) _ (omega arith)
placed c v [] (suc e) f = other_number v.epoch e (Some v) None
placed c v (w ∷ ws) (suc e) f =
    let at = (next_epoch c v w f.0).0 in
    other_number v.epoch e (Some v) (view_of_epoch (w ∷ ws) (v.epoch + suc e))
    ∙ ap (view_of_epoch (w ∷ ws)) (let same : v.epoch + suc e ≡ w.epoch + e = omega (arith, at) in same)
    ∙ placed c w ws e f.1

pub counted : (c : Sizes) (v : View) (ws : List View) → FollowOn c v ws → length ws + v.epoch ≡ (last_or v ws).epoch
counted c v [] f = omega arith
counted c v (w ∷ ws) f =
    let at = (next_epoch c v w f.0).0 in
    let rest = counted c w ws f.1 in
    omega (arith, at, rest)

pub views_placed : (c : Sizes) (vs : List View) (e : ℕ) → AreViews c vs → view_of_epoch vs (e + 1) ≡ slice_get vs e
views_placed c [] e bad = absurd bad
views_placed c (v ∷ vs) e are =
    let at = ap (λ (x : View). x.epoch) are.0 in
    let same : e + 1 ≡ v.epoch + e = omega (arith, at) in
    ap (view_of_epoch (v ∷ vs)) same ∙ placed c v vs e are.1

views_counted : (c : Sizes) (vs : List View) → AreViews c vs → length vs ≡ (last_or (first c) vs).epoch
views_counted c [] bad = absurd bad
views_counted c (v ∷ vs) are =
    let at = ap (λ (x : View). x.epoch) are.0 in
    let rest = counted c v vs are.1 in
    omega (arith, at, rest)

pub last_view_is_whole_law : LastViewIsWhole
last_view_is_whole_law c i =
    let right = last_right c.config c.views i.views in
    record { whole = right.whole; epoch = refl; low = right.low; high = right.high }

pub views_are_whole_law : ViewsAreWhole
views_are_whole_law c e v i there =
    let found = found_right c.config c.views e v i.views there in
    let right = found.right in
    let at = found.epoch in
    let low = right.low in
    let high = right.high in
    (record { whole = right.whole; epoch = at; low = omega (arith, at, low); high = omega (arith, at, high) }, found.reached)

pub views_are_numbered_law : ViewsAreNumbered
views_are_numbered_law c i = (views_counted c.config c.views i.views, λ e. views_placed c.config c.views e i.views)
