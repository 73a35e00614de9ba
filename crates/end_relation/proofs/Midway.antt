-- What is known of a work inside a step, whatever page, stays through replies and messages.
use Rattle.std.proofs.Common.{◌≡◌, refl, sym, subst, ◌∙◌, ℕ, List, map, Option, Some, None}
use Rattle.std.specs.Prelude.{IfSome}
use Rattle.pcl_base.specs.declared.event.Event.{Event}
use Rattle.pcl_base.specs.declared.lock.Pending.{Pending}
use Rattle.pcl_base.specs.declared.message.Body.{Body}
use Rattle.pcl_base.specs.declared.tx.TxId.{TxId}
use Rattle.text_rules.specs.MessageBytes.{IsBody}
use Rattle.node_rules.specs.OpenTxs.{OpenTxs, pending_of}
use Rattle.node_rules.specs.Work.{Work, send, work_of_home}
use Rattle.node_laws.specs.Nodes.{IsOther}
use Rattle.node_laws.proofs.Works.{Base, IsGood, good_send}
use Rattle.cluster_rules.specs.Clusters.{Cluster, sent_by}
use Rattle.page_laws.specs.Moment.Looks.{asked_last}
use Rattle.page_laws.proofs.MomentParts.Entries.{sent_adds_nothing_law}
use Rattle.page_laws.proofs.MomentParts.Growing.{nothing_tells_law}
use Rattle.page_relation.specs.Work.Landing.{trace_of}
use Rattle.page_relation.specs.Work.Letting.{CalledBy}
use Rattle.end_relation.specs.Midway.{IsMidway}

-- each access that waits waited before
abbrev pub StillWaits : OpenTxs → OpenTxs → Type 0
StillWaits before after = (t : TxId) → IfSome (pending_of after t) (λ (x : Pending). pending_of before t ≡ Some x)

-- the same was asked for last
abbrev pub SameAsked : Cluster → Event → ℕ → Work → Work → Type 0
SameAsked c e n w x = (t : TxId) → asked_last t (trace_of c e n x) ≡ asked_last t (trace_of c e n w)

pub still_same : (s : OpenTxs) → StillWaits s s
still_same s t = by (pending_of s t)
  where
    by : (o : Option Pending) → IfSome o (λ (x : Pending). o ≡ Some x)
    by None = tt
    by (Some x) = refl

pub asked_still : (o k : Option Pending) (v w : Option (ℕ × List ℕ)) → w ≡ v → IfSome k (λ (x : Pending). o ≡ Some x) → IfSome o (λ (x : Pending). x.write ≡ v)
    → IfSome k (λ (x : Pending). x.write ≡ w)
asked_still o None v w same still old = tt
asked_still o (Some x) v w same still old = subst (λ (y : Option Pending). IfSome y (λ (z : Pending). z.write ≡ v)) still old ∙ sym same

-- a further work of the step
pub midway_on : (b : Base) (c : Cluster) (e : Event) (n : ℕ) (w x : Work) → IsMidway b c e n w → IsGood b x → CalledBy n c.disk (work_of_home x)
    → StillWaits w.node.home.txs x.node.home.txs → SameAsked c e n w x → IsMidway b c e n x
midway_on b c e n w x i good called still same =
    record {
      base = i.base;
      config = i.config;
      number = i.number;
      view = i.view;
      in_view = i.in_view;
      there = i.there;
      made = i.made;
      start = i.start;
      up = i.up;
      rises = i.rises;
      good = good;
      called = called;
      asked = λ t.
          asked_still (pending_of w.node.home.txs t) (pending_of x.node.home.txs t) (asked_last t (trace_of c e n w)) (asked_last t (trace_of c e n x)) (same t) (still t) (i.asked t);
    }

-- a message
pub send_asks : (c : Cluster) (e : Event) (n to : ℕ) (body : Body) (w : Work) → SameAsked c e n w (send to body w)
send_asks c e n to body w t =
    (nothing_tells_law c.config (trace_of c e n w) (trace_of c e n (send to body w))
    (sent_adds_nothing_law c.trace e w.replies (map (sent_by n) w.sends) (map (sent_by n) (send to body w).sends))).asked t

pub send_midway : (b : Base) (c : Cluster) (e : Event) (n to : ℕ) (body : Body) (w : Work) → IsOther b.config b.number to → IsBody b.config body → IsMidway b c e n w → IsMidway b c e n (send to body w)
send_midway b c e n to body w other is i =
    midway_on b c e n w (send to body w) i (good_send b i.base to body w other is i.good) i.called (still_same w.node.home.txs) (send_asks c e n to body w)
