-- Since when a node owns a partition, in a view that follows another one.
use Rattle.std.proofs.Common.{◌≡◌, refl, ap, sym, subst, ◌∙◌, ℕ, zero, suc, ◌+◌, ◌<◌, ◌==◌, ◌&&◌, not, Bool, true, false, List, [], ◌∷◌, slice_index, Some, None, Result, Ok, Err, eqb-true, arith}
use Rattle.std.specs.List.{list_all}
use Rattle.pcl_base.specs.Limits.{Sizes}
use Rattle.pcl_base.specs.declared.reply.Reason.{Reason}
use Rattle.pcl_base.specs.declared.reply.Reason.TheVariants as reason
use Rattle.run_rules.specs.Words.{pick}
use Rattle.run_rules.specs.Ledger as ledger
use Rattle.run_rules.specs.Ledger.{Ledger, view_at, installed_at, actor}
use Rattle.run_rules.specs.Views.{View, owner_of, since_of, next, follows, is_that, same_view, same_numbers, same_flags, count_from}
use Rattle.rule_laws.specs.LaterViews.{IsWhole, IsMoved}
use Rattle.rule_laws.proofs.Successors.{next_moves_law}
use Rattle.node_rules.specs.NodeState.{NodeState, NodeEvent, number_of, start_node}
use Rattle.node_rules.specs.NodeState as node
use Rattle.node_rules.specs.Refusals.{refusal, refuse_if, may_install}
use Rattle.home_laws.proofs.Tests.{and_left, and_right}
use Rattle.cluster_rules.specs.Clusters.{view_of_epoch}
use Rattle.cluster_rules.specs.ClusterStep.{made}

-- ---- views that follow one another

-- the view of an epoch, as the ledger finds it
pub found : (d : View) (vs : List View) (e : ℕ) (v : View) → view_of_epoch vs e ≡ Some v → (ledger.view_of_epoch d vs v.epoch ≡ v) × (v.epoch ≡ e)
unfolding view_of_epoch ledger.view_of_epoch
found d [] e v is = absurd (cc)
found d (w ∷ ws) e v is = by (w.epoch == e) refl is (found d ws e v)
  where
    by : (b : Bool) → (w.epoch == e) ≡ b → pick b (Some w) (view_of_epoch ws e) ≡ Some v → (view_of_epoch ws e ≡ Some v → (ledger.view_of_epoch d ws v.epoch ≡ v) × (v.epoch ≡ e))
        → (pick (w.epoch == v.epoch) w (ledger.view_of_epoch d ws v.epoch) ≡ v) × (v.epoch ≡ e)
    by true at is rest =
        let same : w ≡ v = cc in
        let here : v.epoch ≡ e = sym (ap (λ (x : View). x.epoch) same) ∙ eqb-true w.epoch e at in
        (ap (λ k. pick (w.epoch == k) w (ledger.view_of_epoch d ws v.epoch)) here ∙ ap (λ b. pick b w (ledger.view_of_epoch d ws v.epoch)) at ∙ same, here)
    by false at is rest =
        let further = rest is in
        (ap (λ k. pick (w.epoch == k) w (ledger.view_of_epoch d ws v.epoch)) further.1 ∙ ap (λ b. pick b w (ledger.view_of_epoch d ws v.epoch)) at ∙ further.0, further.1)

-- what two equal views have in common
pub record AreAlike (v w : View) : Type 0 where
  epoch : v.epoch ≡ w.epoch
  owners : same_numbers v.owners w.owners ≡ true
  since : same_numbers v.since w.since ≡ true

pub alike : (v w : View) → same_view v w ≡ true → AreAlike v w
alike v w e = of (v.epoch == w.epoch) (same_flags v.live w.live) (same_numbers v.owners w.owners) (same_numbers v.since w.since) (same_numbers v.born w.born) refl refl refl e
  where
    of : (a b d f g : Bool) → (v.epoch == w.epoch) ≡ a → same_numbers v.owners w.owners ≡ d → same_numbers v.since w.since ≡ f → a && b && d && f && g ≡ true → AreAlike v w
    of true true true true true at owners since t = record { epoch = eqb-true v.epoch w.epoch at; owners = owners; since = since }
    of true true true true false at owners since t = absurd (cc)
    of true true true false g at owners since t = absurd (cc)
    of true true false f g at owners since t = absurd (cc)
    of true false d f g at owners since t = absurd (cc)
    of false b d f g at owners since t = absurd (cc)

pub numbers_same : (xs ys : List ℕ) (i : ℕ) → same_numbers xs ys ≡ true → slice_index xs i ≡ slice_index ys i
unfolding same_numbers
numbers_same [] [] i e = refl
numbers_same [] (y ∷ ys) i e = absurd (cc)
numbers_same (x ∷ xs) [] i e = absurd (cc)
numbers_same (x ∷ xs) (y ∷ ys) zero e = eqb-true x y (and_left (x == y) (same_numbers xs ys) e)
numbers_same (x ∷ xs) (y ∷ ys) (suc i) e = numbers_same xs ys i (and_right (x == y) (same_numbers xs ys) e)

-- a partition that a node owns in a view that follows: since this one, or since the same as before
pub data IsOwnedSince (w v : View) (q : ℕ) : Type 0 where
  since_now : since_of v q ≡ v.epoch → IsOwnedSince w v q
  since_before : owner_of w q ≡ owner_of v q → since_of v q ≡ since_of w q → IsOwnedSince w v q

pub followed : (c : Sizes) (w v : View) (q : ℕ) → IsWhole c w → q < c.nodes → follows c w v ≡ true → IsOwnedSince w v q
unfolding follows
followed c w v q whole low e = by (next c w v.live v.owners) refl e
  where
    owned : (x : View) → IsMoved w x → AreAlike x v → (b : Bool) → (owner_of w q == owner_of x q) ≡ b → since_of x q ≡ pick b (since_of w q) x.epoch → IsOwnedSince w v q
    owned x m a true t s = since_before (eqb-true (owner_of w q) (owner_of x q) t ∙ numbers_same x.owners v.owners q a.owners) (sym (numbers_same x.since v.since q a.since) ∙ s)
    owned x m a false t s = since_now (sym (numbers_same x.since v.since q a.since) ∙ s ∙ a.epoch)

    by : (r : Result View ℕ) → next c w v.live v.owners ≡ r → is_that r v ≡ true → IsOwnedSince w v q
    by (Ok x) made t =
        let m = next_moves_law c w x v.live v.owners whole made in
        owned x m (alike x v t) (owner_of w q == owner_of x q) refl (m.since q (subst (λ k. q < k) (sym whole.since) low))
    by (Err rule) made t = absurd (cc)

-- a node in no view begins with new partitions alone
pub listed : (f : ℕ → Bool) (a k i : ℕ) → list_all f (count_from a k) ≡ true → i < k → f (a + i) ≡ true
unfolding count_from
listed f a zero i all low = absurd (omega (arith, low))
listed f a (suc k) zero all low = let same : a + 0 ≡ a = omega arith in ap f same ∙ and_left (f a) (list_all f (count_from (a + 1) k)) all
listed f a (suc k) (suc i) all low =
    let same : a + 1 + i ≡ a + suc i = omega arith in
    ap f (sym same) ∙ listed f (a + 1) k i (and_right (f a) (list_all f (count_from (a + 1) k)) all) (omega (arith, low))

pub was_allowed : (b : Bool) (r : Reason) → refuse_if (not b) r None ≡ None → b ≡ true
was_allowed true r e = refl
was_allowed false r e = absurd (cc)

pub may_install_view : (s : NodeState) (v : View) → refusal s (node.Install v) ≡ None → may_install s s.view v ≡ true
unfolding refusal
may_install_view s v free = was_allowed (may_install s s.view v) reason.NoView free
