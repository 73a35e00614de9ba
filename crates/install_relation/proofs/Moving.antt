-- What is known of the works of an install while a partition that the node gets or tells of moves on.
use Rattle.std.proofs.Common.{◌≡◌, refl, ap, sym, subst, ◌∙◌, ℕ, ◌+◌, ◌<◌, ◌==◌, Bool, true, false, List, Option, Some, None}
use Rattle.std.specs.Prelude.{IfSome}
use Rattle.pcl_base.specs.Limits.{Sizes}
use Rattle.pcl_base.specs.declared.event.Event.{Event}
use Rattle.pcl_base.specs.declared.lock.Pending.{Pending}
use Rattle.pcl_base.specs.declared.message.Body.TheVariants as body
use Rattle.pcl_base.specs.declared.tx.TxId.{TxId}
use Rattle.run_rules.specs.Views.{View, owner_of, since_of}
use Rattle.node_rules.specs.InstallRule.{give_up, left_if, owned_before, take_over, tell_new_owner}
use Rattle.node_rules.specs.NodeState.{NodeState, number_of}
use Rattle.node_rules.specs.OpenTxs.{OpenTxs, pending_of}
use Rattle.node_rules.specs.Reports.{report}
use Rattle.node_rules.specs.Work.{Work, with_node, work_of_home}
use Rattle.node_laws.proofs.Installs.{at, upto}
use Rattle.node_laws.proofs.Works.{Base, IsGood}
use Rattle.cluster_rules.specs.Clusters.{Cluster}
use Rattle.page_laws.proofs.LookParts.Turning.{giving_up_is_seen_law, taking_over_is_seen_law}
use Rattle.page_laws.specs.Moment.Looks.{asked_last}
use Rattle.page_relation.specs.Work.Landing.{trace_of}
use Rattle.page_relation.specs.Work.Letting.{CalledBy}
use Rattle.settle_relation.specs.Midway.{IsMidway}
use Rattle.settle_relation.proofs.Midway.{StillWaits, SameAsked, send_asks, still_same}
use Rattle.install_relation.specs.Installing.{IsInstall, numbers, numbers_at}
use Rattle.install_relation.specs.Taking.{taken}
use Rattle.install_relation.proofs.Begun.{member, can, installs}
use Rattle.install_relation.proofs.Good.{taken_good, tell_good, same_good}

-- the same waits
waits_still : (before after : OpenTxs) → ((t : TxId) → pending_of after t ≡ pending_of before t) → StillWaits before after
waits_still before after same t = subst (λ (o : Option Pending). IfSome o (λ (x : Pending). pending_of before t ≡ Some x)) (sym (same t)) (still_same before t)

asked_by : (o k : Option Pending) (x y : Option (ℕ × List ℕ)) → y ≡ x → IfSome k (λ (z : Pending). o ≡ Some z) → IfSome o (λ (z : Pending). z.write ≡ x) → IfSome k (λ (z : Pending). z.write ≡ y)
asked_by o None x y same still old = tt
asked_by o (Some w) x y same still old = subst (λ (k : Option Pending). IfSome k (λ (z : Pending). z.write ≡ x)) still old ∙ sym same

-- another work of the step, where the node has tables elsewhere
midway_at : (b : Base) (g h : ℕ → Bool) (c : Cluster) (e : Event) (n : ℕ) (w x : Work) → IsMidway (at b g) c e n w → IsGood (at b h) x → CalledBy n c.disk (work_of_home x)
    → StillWaits w.node.home.txs x.node.home.txs → SameAsked c e n w x → IsMidway (at b h) c e n x
midway_at b g h c e n w x i good called still same =
    record {
      base = record { number = i.base.number; epoch = i.base.epoch };
      config = i.config;
      number = i.number;
      view = i.view;
      in_view = i.in_view;
      there = i.there;
      made = i.made;
      start = i.start;
      up = i.up;
      rises = i.rises;
      good = good;
      called = called;
      asked = λ t.
          asked_by (pending_of w.node.home.txs t) (pending_of x.node.home.txs t) (asked_last t (trace_of c e n w)) (asked_last t (trace_of c e n x)) (same t) (still t) (i.asked t);
    }

module _ (c : Cluster) (e : Event) (n : ℕ) (s : NodeState) (v : View) (i : IsInstall c e n s v) (q : ℕ) (low : q < c.config.nodes) (w : Work) (m : IsMidway (numbers_at s v q) c e n w) where
  abbrev b : Base
  b = numbers s v

  room : q < s.home.config.nodes
  room = subst (λ (k : Sizes). q < k.nodes) (sym (member c e n s v i).config) low

  -- the node is the one that the rules ask for
  pub number_test : (k : ℕ) (x : Bool) → (k == number_of w.node) ≡ x → (k == number_of s) ≡ x
  number_test k x is = ap (λ (j : ℕ). k == j) (sym m.good.home.number) ∙ is

  pub taken_midway : (owner_of v q == number_of w.node) ≡ true → IsMidway (numbers_at s v (q + 1)) c e n (taken q w)
  taken_midway owns =
      midway_at b (upto s.view v (number_of s) q) (upto s.view v (number_of s) (q + 1)) c e n w (taken q w) m
      (taken_good b (member c e n s v i).sound.limits m.base.number m.base.epoch s.view v (can c e n s v i).0 (installs c e n s v i).keeps q room w (number_test (owner_of v q) true owns) m.good)
      m.called (waits_still w.node.home.txs (take_over q w.node.home).txs (λ t. (taking_over_is_seen_law q w.node.home).locks.waits t)) (λ t. refl)

  pub told_midway : (owner_of v q == number_of w.node) ≡ false → IsMidway (numbers_at s v (q + 1)) c e n (tell_new_owner s.view v q w)
  told_midway other =
      midway_at b (upto s.view v (number_of s) q) (upto s.view v (number_of s) (q + 1)) c e n w (tell_new_owner s.view v q w) m
      (tell_good b (member c e n s v i).sound.limits m.base.number m.base.epoch s.view v (can c e n s v i).0 (installs c e n s v i).keeps q room w (number_test (owner_of v q) false other) m.good)
      (by (owned_before s.view q (number_of w.node))) (waits (owned_before s.view q (number_of w.node)))
      (send_asks c e n (owner_of v q) (body.Report (report q (left_if (owned_before s.view q (number_of w.node)) q w.node).home)) (with_node w (left_if (owned_before s.view q (number_of w.node)) q w.node)))
    where
      by : (d : Bool) → CalledBy n c.disk (work_of_home (with_node w (left_if d q w.node)))
      by true = m.called
      by false = m.called

      waits : (d : Bool) → StillWaits w.node.home.txs (left_if d q w.node).home.txs
      waits true = waits_still w.node.home.txs (give_up q w.node).home.txs (λ t. (giving_up_is_seen_law q w.node).locks.waits t)
      waits false = still_same w.node.home.txs

  pub kept_midway : (since_of v q == v.epoch) ≡ false → IsMidway (numbers_at s v (q + 1)) c e n w
  kept_midway old =
      midway_at b (upto s.view v (number_of s) q) (upto s.view v (number_of s) (q + 1)) c e n w w m
      (same_good b (member c e n s v i).sound.limits m.base.number m.base.epoch s.view v (can c e n s v i).0 (installs c e n s v i).keeps q room w old m.good) m.called (still_same w.node.home.txs)
      (λ t. refl)
