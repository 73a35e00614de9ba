-- The views that were made, and the one of an epoch among them.
use Rattle.std.proofs.Common.{◌≡◌, refl, ap, sym, subst, ℕ, ◌+◌, ◌-◌, ◌^◌, ◌<◌, ◌≤◌, ◌==◌, not, Bool, true, false, List, [], ◌∷◌, ◌++◌, Option, Some, None, Result, Ok, Err, arith, eqb-true, ltb-true}
use Rattle.std.specs.Prelude.{IfSome}
use Rattle.std.proofs.lemmas.Bool.Decides.{nat_tests}
use Rattle.pcl_base.specs.Limits.{Sizes}
use Rattle.run_rules.specs.Views.{View, first, keeps_one, keeps_two, keeps_four, keeps_six, moved, anew, unless_broken, next, reopen}
use Rattle.node_rules.specs.Words.{pick}
use Rattle.rule_laws.specs.LaterViews.{IsWhole, IsNext, moves, reopens}
use Rattle.rule_laws.proofs.Successors.{first_is_whole_law, whole_stays_law}
use Rattle.cluster_rules.specs.Clusters.{view_of_epoch, last_or}
use Rattle.cluster_laws.specs.Sound.{FollowOn, AreViews}

-- a reopened view
pub reopen_is : (c : Sizes) (v w : View) → reopen c v ≡ Ok w → (anew c (v.epoch + 1) ≡ w) × (keeps_six v ≡ true)
unfolding reopen
reopen_is c v w e = by (keeps_six v) refl e
  where
    by : (b : Bool) → keeps_six v ≡ b → pick {X = Result View ℕ} b (Ok (anew c (v.epoch + 1))) (Err 6) ≡ Ok w → (anew c (v.epoch + 1) ≡ w) × (keeps_six v ≡ true)
    by true s q = (cc, s)
    by false s q = absurd (cc)

-- a moved view
pub next_is : (c : Sizes) (v w : View) (live : List Bool) (owners : List ℕ) → next c v live owners ≡ Ok w → (moved v live owners ≡ w) × (keeps_six v ≡ true)
unfolding next
next_is c v w live owners e =
    by (not (keeps_one c live owners)) (not (keeps_two live)) (not (keeps_four c live owners)) (keeps_six v) refl e
  where
    by : (a b d s : Bool) → keeps_six v ≡ s
        → unless_broken (pick a (Some 1) (pick b (Some 2) (pick d (Some 4) (pick (not s) (Some 6) None)))) (moved v live owners) ≡ Ok w
        → (moved v live owners ≡ w) × (keeps_six v ≡ true)
    by true b d s t q = absurd (cc)
    by false true d s t q = absurd (cc)
    by false false true s t q = absurd (cc)
    by false false false false t q = absurd (cc)
    by false false false true t q = (cc, t)

-- a view of the cluster, whose epoch has four bytes
pub record IsRight (c : Sizes) (v : View) : Type 0 where
  pub whole : IsWhole c v
  pub low : 1 ≤ v.epoch
  pub high : v.epoch < 2 ^ 32

below_last : (v : View) → keeps_six v ≡ true → v.epoch + 1 < 2 ^ 32
below_last v six = let less = ltb-true v.epoch (2 ^ 32 - 1) six in omega (arith, less)

pub next_epoch : (c : Sizes) (v w : View) → IsNext c v w → (w.epoch ≡ v.epoch + 1) × (v.epoch + 1 < 2 ^ 32)
next_epoch c v w (moves live owners e) =
    let n = next_is c v w live owners e in (ap (λ (x : View). x.epoch) (sym n.0), below_last v n.1)
next_epoch c v w (reopens e) =
    let n = reopen_is c v w e in (ap (λ (x : View). x.epoch) (sym n.0), below_last v n.1)

pub right_first : (c : Sizes) → IsRight c (first c)
right_first c = record { whole = first_is_whole_law c; low = omega arith; high = omega arith }

pub right_next : (c : Sizes) (v w : View) → IsRight c v → IsNext c v w → IsRight c w
right_next c v w i n =
    let at = next_epoch c v w n in
    let same = at.0 in
    let high = at.1 in
    record { whole = whole_stays_law c v w i.whole n; low = omega (arith, same); high = omega (arith, same, high) }

-- the last one
last_of : (c : Sizes) (v : View) (ws : List View) → IsRight c v → FollowOn c v ws → IsRight c (last_or v ws) × (v.epoch ≤ (last_or v ws).epoch)
last_of c v [] i f = (i, omega arith)
last_of c v (w ∷ ws) i f =
    let rest = last_of c w ws (right_next c v w i f.0) f.1 in
    let at = next_epoch c v w f.0 in
    let same = at.0 in
    let less = rest.1 in
    (rest.0, omega (arith, same, less))

-- the one of an epoch
pub record IsFound (c : Sizes) (last e : ℕ) (w : View) : Type 0 where
  pub right : IsRight c w
  pub epoch : w.epoch ≡ e
  pub reached : e ≤ last

found_by : (c : Sizes) (last e : ℕ) (v w : View) (o : Option View) (b : Bool) → (v.epoch == e) ≡ b → IsRight c v → v.epoch ≤ last
    → pick b (Some v) o ≡ Some w → (o ≡ Some w → IsFound c last e w) → IsFound c last e w
found_by c last e v w o true t i less h rest =
    let same : v ≡ w = cc in
    let at = eqb-true v.epoch e t in
    subst (IsFound c last e) same (record { right = i; epoch = at; reached = omega (arith, at, less) })
found_by c last e v w o false t i less h rest = rest h

found_of : (c : Sizes) (v : View) (ws : List View) (e : ℕ) (w : View) → IsRight c v → FollowOn c v ws → view_of_epoch (v ∷ ws) e ≡ Some w → IsFound c (last_or v ws).epoch e w
unfolding view_of_epoch
found_of c v [] e w i f h = found_by c v.epoch e v w None (v.epoch == e) refl i (omega arith) h (λ none. absurd (cc))
found_of c v (x ∷ xs) e w i f h =
    found_by c (last_or x xs).epoch e v w (view_of_epoch (x ∷ xs) e) (v.epoch == e) refl i (last_of c v (x ∷ xs) i f).1 h (λ k. found_of c x xs e w (right_next c v x i f.0) f.1 k)

pub last_right : (c : Sizes) (vs : List View) → AreViews c vs → IsRight c (last_or (first c) vs)
last_right c [] bad = absurd bad
last_right c (v ∷ vs) are = (last_of c v vs (subst (IsRight c) (sym are.0) (right_first c)) are.1).0

pub found_right : (c : Sizes) (vs : List View) (e : ℕ) (w : View) → AreViews c vs → view_of_epoch vs e ≡ Some w → IsFound c (last_or (first c) vs).epoch e w
found_right c [] e w bad h = absurd bad
found_right c (v ∷ vs) e w are h = found_of c v vs e w (subst (IsRight c) (sym are.0) (right_first c)) are.1 h

-- a further one
follow_push : (c : Sizes) (v : View) (ws : List View) (x : View) → FollowOn c v ws → IsNext c (last_or v ws) x → FollowOn c v (ws ++ x ∷ [])
follow_push c v [] x f n = (n, tt)
follow_push c v (w ∷ ws) x f n = (f.0, follow_push c w ws x f.1 n)

pub views_push : (c : Sizes) (vs : List View) (x : View) → AreViews c vs → IsNext c (last_or (first c) vs) x → AreViews c (vs ++ x ∷ [])
views_push c [] x bad n = absurd bad
views_push c (v ∷ vs) x are n = (are.0, follow_push c v vs x are.1 n)

pub last_push : (d : View) (vs : List View) (x : View) → last_or d (vs ++ x ∷ []) ≡ x
last_push d [] x = refl
last_push d (v ∷ vs) x = last_push v vs x

pub found_push : (vs : List View) (x : View) (e : ℕ) (w : View) → view_of_epoch vs e ≡ Some w → view_of_epoch (vs ++ x ∷ []) e ≡ Some w
unfolding view_of_epoch
found_push [] x e w h = absurd (cc)
found_push (v ∷ vs) x e w h = by (v.epoch == e) h (found_push vs x e w)
  where
    by : (b : Bool) → pick b (Some v) (view_of_epoch vs e) ≡ Some w → (view_of_epoch vs e ≡ Some w → view_of_epoch (vs ++ x ∷ []) e ≡ Some w)
        → pick b (Some v) (view_of_epoch (vs ++ x ∷ []) e) ≡ Some w
    by true k rest = k
    by false k rest = rest k

pub if_push : (P : View → Type 0) (vs : List View) (x : View) (e : ℕ) → IfSome (view_of_epoch vs e) P → P x → IfSome (view_of_epoch (vs ++ x ∷ []) e) P
unfolding view_of_epoch
if_push P [] x e h is = by (x.epoch == e)
  where
    by : (b : Bool) → IfSome (pick b (Some x) None) P
    by true = is
    by false = tt
if_push P (v ∷ vs) x e h is = by (v.epoch == e) h (λ k. if_push P vs x e k is)
  where
    by : (b : Bool) → IfSome (pick b (Some v) (view_of_epoch vs e)) P → (IfSome (view_of_epoch vs e) P → IfSome (view_of_epoch (vs ++ x ∷ []) e) P)
        → IfSome (pick b (Some v) (view_of_epoch (vs ++ x ∷ []) e)) P
    by true k rest = k
    by false k rest = rest k

-- no view is of a later epoch than the last
pub none_later : (c : Sizes) (vs : List View) (e : ℕ) → AreViews c vs → (last_or (first c) vs).epoch < e → view_of_epoch vs e ≡ None
none_later c vs e are later = by (view_of_epoch vs e) refl
  where
    by : (o : Option View) → view_of_epoch vs e ≡ o → o ≡ None
    by None h = refl
    by (Some w) h = let under = (found_right c vs e w are h).reached in absurd (omega (arith, under, later))

-- the further one is found
pub push_found : (vs : List View) (x : View) → view_of_epoch vs x.epoch ≡ None → view_of_epoch (vs ++ x ∷ []) x.epoch ≡ Some x
unfolding view_of_epoch
push_found [] x none = by (x.epoch == x.epoch) refl
  where
    by : (b : Bool) → (x.epoch == x.epoch) ≡ b → pick b (Some x) None ≡ Some x
    by true t = refl
    by false t = absurd (grind (arith, nat_tests))
push_found (v ∷ vs) x none = by (v.epoch == x.epoch) none (push_found vs x)
  where
    by : (b : Bool) → pick b (Some v) (view_of_epoch vs x.epoch) ≡ None → (view_of_epoch vs x.epoch ≡ None → view_of_epoch (vs ++ x ∷ []) x.epoch ≡ Some x)
        → pick b (Some v) (view_of_epoch (vs ++ x ∷ []) x.epoch) ≡ Some x
    by true k rest = absurd (cc)
    by false k rest = rest k
