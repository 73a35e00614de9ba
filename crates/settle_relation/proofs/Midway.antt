-- What is known of a work inside a step, whatever page: at its start, and kept by replies, messages, entries and grants.
use Rattle.std.proofs.Common.{◌≡◌, refl, ap, sym, subst, ◌∙◌, ℕ, ◌==◌, ◌&&◌, not, Bool, true, false, List, [], ◌∷◌, map, Option, Some, None, is_some, arith, eqb-true}
use Rattle.std.specs.Prelude.{IfSome}
use Rattle.std.specs.List.{fold}
use Rattle.std.proofs.lemmas.List.Sums.{fold-append}
use Rattle.pcl_base.specs.Limits.{Sizes}
use Rattle.pcl_base.specs.declared.event.Event.{Event}
use Rattle.pcl_base.specs.declared.event.Event.TheVariants as event
use Rattle.pcl_base.specs.declared.lock.Pending.{Pending}
use Rattle.pcl_base.specs.declared.message.Body.{Body}
use Rattle.pcl_base.specs.declared.reply.Reason.{Reason}
use Rattle.pcl_base.specs.declared.reply.Reason.TheVariants as reason
use Rattle.pcl_base.specs.declared.reply.Reply.{Reply}
use Rattle.pcl_base.specs.declared.reply.Reply.TheVariants as reply
use Rattle.pcl_base.specs.declared.tx.TxId.{TxId}
use Rattle.text_rules.specs.MessageBytes.{IsBody}
use Rattle.run_rules.specs.Script.{Moment, is_refusal, told, last_write, moments}
use Rattle.run_rules.specs.Views.{View}
use Rattle.node_rules.specs.NodeState.{NodeState, NodeEvent, number_of}
use Rattle.node_rules.specs.NodeState as node
use Rattle.node_rules.specs.OpenTxs.{OpenTxs, is_own, with_serial, waiting_of_open, pending_of}
use Rattle.node_rules.specs.Refusals.{not_open, waits, refuse_if, refusal}
use Rattle.node_rules.specs.Words.{pick}
use Rattle.node_rules.specs.Work.{HomeWork, Work, reply, send, work_of_home, with_home_work}
use Rattle.node_laws.specs.Nodes.{IsOther, DiskFits}
use Rattle.node_laws.proofs.Bases.{base_of, base_is, base_sound, begun_good}
use Rattle.node_laws.proofs.Events.{not_refused}
use Rattle.node_laws.proofs.Works.{Base, IsHomeWork, IsGood, good_reply, good_send, good_home}
use Rattle.cluster_rules.specs.Clusters.{Cluster, node_at, sent_by, view_of_epoch}
use Rattle.cluster_laws.specs.Handed.{handed_to, IsHanded}
use Rattle.cluster_laws.specs.Sound.{IsMember, IsCluster}
use Rattle.cluster_laws.proofs.Steps.{up_is_member_law}
use Rattle.page_laws.specs.Moment.Looks.{asked_last, with_entry, Adds}
use Rattle.page_laws.proofs.MomentParts.Entries.{event_adds_law, reply_adds_law, sent_adds_nothing_law}
use Rattle.page_laws.proofs.MomentParts.Growing.{ask_tells_law, nothing_tells_law}
use Rattle.page_protocol.specs.State as machine
use Rattle.page_protocol.proofs.Basics.{same_tx_true}
use Rattle.page_relation.specs.Together.{WaitsAsAsked}
use Rattle.page_relation.specs.Work.Landing.{trace_of}
use Rattle.page_relation.specs.Work.Letting.{CalledBy}
use Rattle.page_relation.specs.Work.StepEnds.{start_of}
pub use Rattle.settle_relation.specs.Midway.{IsMidway}

-- each access that waits waited before
abbrev pub StillWaits : OpenTxs → OpenTxs → Type 0
StillWaits before after = (t : TxId) → IfSome (pending_of after t) (λ (x : Pending). pending_of before t ≡ Some x)

-- the same was asked for last
abbrev pub SameAsked : Cluster → Event → ℕ → Work → Work → Type 0
SameAsked c e n w x = (t : TxId) → asked_last t (trace_of c e n x) ≡ asked_last t (trace_of c e n w)

pub still_same : (s : OpenTxs) → StillWaits s s
still_same s t = by (pending_of s t)
  where
    by : (o : Option Pending) → IfSome o (λ (x : Pending). o ≡ Some x)
    by None = tt
    by (Some x) = refl

asked_still : (o k : Option Pending) (v w : Option (ℕ × List ℕ)) → w ≡ v → IfSome k (λ (x : Pending). o ≡ Some x) → IfSome o (λ (x : Pending). x.write ≡ v)
    → IfSome k (λ (x : Pending). x.write ≡ w)
asked_still o None v w same still old = tt
asked_still o (Some x) v w same still old = subst (λ (y : Option Pending). IfSome y (λ (z : Pending). z.write ≡ v)) still old ∙ sym same

-- a further work of the step
pub midway_on : (b : Base) (c : Cluster) (e : Event) (n : ℕ) (w x : Work) → IsMidway b c e n w → IsGood b x → CalledBy n c.disk (work_of_home x)
    → StillWaits w.node.home.txs x.node.home.txs → SameAsked c e n w x → IsMidway b c e n x
midway_on b c e n w x i good called still same =
    record {
      base = i.base;
      config = i.config;
      number = i.number;
      view = i.view;
      in_view = i.in_view;
      there = i.there;
      made = i.made;
      start = i.start;
      up = i.up;
      rises = i.rises;
      good = good;
      called = called;
      asked = λ t.
          asked_still (pending_of w.node.home.txs t) (pending_of x.node.home.txs t) (asked_last t (trace_of c e n w)) (asked_last t (trace_of c e n x)) (same t) (still t) (i.asked t);
    }

-- ---- what is asked for stays

told_asks : (t : TxId) (w : Option (ℕ × List ℕ)) (r : Reply) → fold (last_write t) w (told r) ≡ w
told_asks t w (reply.Begun u) = refl
told_asks t w (reply.Committed u) = refl
told_asks t w (reply.Aborted u) = refl
told_asks t w (reply.Value u q v bytes) = refl
told_asks t w (reply.Done u q v) = refl
told_asks t w (reply.Waits u q) = refl
told_asks t w reply.Taken = refl
told_asks t w reply.Held = refl
told_asks t w reply.Dropped = refl
told_asks t w reply.Evicted = refl
told_asks t w reply.Flushed = refl
told_asks t w reply.Crashed = refl
told_asks t w reply.Armed = refl
told_asks t w (reply.Cut k) = refl
told_asks t w (reply.Viewed k) = refl
told_asks t w (reply.Installed k) = refl
told_asks t w (reply.Reopened k) = refl
told_asks t w (reply.Serving q) = refl
told_asks t w (reply.Refused x) = refl

-- a reply that is no refusal
pub reply_asks : (c : Cluster) (e : Event) (n : ℕ) (r : Reply) (w : Work) → is_refusal r ≡ false → SameAsked c e n w (reply r w)
unfolding asked_last
reply_asks c e n r w goes t =
    ap (fold (last_write t) None) (reply_adds_law c.trace e w.replies r (map (sent_by n) w.sends) (map (sent_by n) w.sends) goes)
    ∙ fold-append (last_write t) None (moments (trace_of c e n w)) (told r)
    ∙ told_asks t (fold (last_write t) None (moments (trace_of c e n w))) r

-- a message
pub send_asks : (c : Cluster) (e : Event) (n to : ℕ) (body : Body) (w : Work) → SameAsked c e n w (send to body w)
send_asks c e n to body w t =
    (nothing_tells_law c.config (trace_of c e n w) (trace_of c e n (send to body w))
    (sent_adds_nothing_law c.trace e w.replies (map (sent_by n) w.sends) (map (sent_by n) (send to body w).sends))).asked t

-- ---- operations

module _ (b : Base) (c : Cluster) (e : Event) (n : ℕ) where
  pub reply_midway : (r : Reply) (w : Work) → is_refusal r ≡ false → IsMidway b c e n w → IsMidway b c e n (reply r w)
  reply_midway r w goes i =
      midway_on b c e n w (reply r w) i (good_reply b i.base r w i.good) i.called (still_same w.node.home.txs) (reply_asks c e n r w goes)

  pub send_midway : (to : ℕ) (body : Body) (w : Work) → IsOther b.config b.number to → IsBody b.config body → IsMidway b c e n w → IsMidway b c e n (send to body w)
  send_midway to body w other is i =
      midway_on b c e n w (send to body w) i (good_send b i.base to body w other is i.good) i.called (still_same w.node.home.txs) (send_asks c e n to body w)

  -- what a home does
  pub home_midway : (x : HomeWork) (w : Work) → IsHomeWork b x → CalledBy n c.disk x → StillWaits w.node.home.txs x.home.txs → IsMidway b c e n w
      → IsMidway b c e n (with_home_work w x)
  home_midway x w part called still i = midway_on b c e n w (with_home_work w x) i (good_home b i.base x w part i.good) called still (λ t. refl)

-- ---- the start

-- an access that isn't refused
none_of : (o : Option Pending) → is_some o ≡ false → o ≡ None
none_of None e = refl
none_of (Some x) e = absurd (cc)

idle_before : (s : NodeState) (t : TxId) (further : Option Reason)
    → refuse_if (not (is_some s.view)) reason.NotInView (refuse_if (not_open s t) reason.NoTx (refuse_if (waits s t) reason.TxWaits further)) ≡ None → pending_of s.home.txs t ≡ None
idle_before s t further none =
    let one = not_refused (not (is_some s.view)) reason.NotInView (refuse_if (not_open s t) reason.NoTx (refuse_if (waits s t) reason.TxWaits further)) none in
    let two = not_refused (not_open s t) reason.NoTx (refuse_if (waits s t) reason.TxWaits further) one.1 in
    let three = not_refused (waits s t) reason.TxWaits further two.1 in
    none_of (pending_of s.home.txs t) three.0

first_of : (x y : Bool) → (x && y) ≡ true → x ≡ true
first_of true y e = refl
first_of false y e = absurd (cc)

module _ (c : Cluster) (e : Event) (n : ℕ) (s : NodeState) (ev : NodeEvent) (i : IsCluster c) (asks : (t : TxId) → WaitsAsAsked c t (node_at c t.node)) (h : IsHanded c e n s ev) (free : refusal s ev ≡ None) (v : View) (viewed : s.view ≡ Some v) where
  member : IsMember c.config c.views n s
  member = (up_is_member_law c n s i h.up).1

  before : (t : TxId) → IfSome (pending_of s.home.txs t) (λ (x : Pending). x.write ≡ asked_last t c.trace)
  before t = by (is_own s.home.txs t) refl
    where
      by : (own : Bool) → is_own s.home.txs t ≡ own → IfSome (pending_of s.home.txs t) (λ (x : Pending). x.write ≡ asked_last t c.trace)
      by false own = subst (λ (d : Bool). IfSome (waiting_of_open (pick d (with_serial s.home.txs.txs t.serial) None)) (λ (x : Pending). x.write ≡ asked_last t c.trace)) (sym own) tt
      by true own =
          let at : t.node ≡ number_of s = eqb-true t.node s.home.txs.node (first_of (t.node == s.home.txs.node) (t.born == s.home.txs.born) own) in
          subst (WaitsAsAsked c t) h.up (subst (λ (k : ℕ). WaitsAsAsked c t (node_at c k)) (at ∙ member.number) (asks t))

  -- the event asks for nothing
  quiet : (e2 : Event) → Adds c.trace [] (with_entry c.trace e2 [] []) → (t : TxId) → IfSome (pending_of s.home.txs t) (λ (x : Pending). x.write ≡ asked_last t (with_entry c.trace e2 [] []))
  quiet e2 adds t =
      subst (λ (v : Option (ℕ × List ℕ)). IfSome (pending_of s.home.txs t) (λ (x : Pending). x.write ≡ v)) (sym ((nothing_tells_law c.config c.trace (with_entry c.trace e2 [] []) adds).asked t)) (before t)

  -- it asks for an access of a transaction that waits for nothing
  asking : (e2 : Event) (u : TxId) (v : Option (ℕ × List ℕ)) → Adds c.trace (Moment.Asks u v ∷ []) (with_entry c.trace e2 [] []) → pending_of s.home.txs u ≡ None
      → (t : TxId) → IfSome (pending_of s.home.txs t) (λ (x : Pending). x.write ≡ asked_last t (with_entry c.trace e2 [] []))
  asking e2 u v adds idle t =
      subst (λ (k : Option (ℕ × List ℕ)). IfSome (pending_of s.home.txs t) (λ (x : Pending). x.write ≡ k)) (sym ((ask_tells_law c.config c.trace (with_entry c.trace e2 [] []) u v adds).asked t))
      (by (machine.same_tx t u) refl)
    where
      by : (d : Bool) → machine.same_tx t u ≡ d → IfSome (pending_of s.home.txs t) (λ (x : Pending). x.write ≡ machine.pick d v (asked_last t c.trace))
      by true same = subst (λ (o : Option Pending). IfSome o (λ (x : Pending). x.write ≡ v)) (sym (ap (pending_of s.home.txs) (same_tx_true t u same) ∙ idle)) tt
      by false other = before t

  with_event : (e2 : Event) → handed_to c s e2 ≡ Some ev → (t : TxId) → IfSome (pending_of s.home.txs t) (λ (x : Pending). x.write ≡ asked_last t (with_entry c.trace e2 [] []))
  unfolding refusal
  with_event (event.Read u q) g t =
      let same : node.Read u q ≡ ev = cc in
      asking (event.Read u q) u None (event_adds_law c.trace (event.Read u q) []) (idle_before s u _ (ap (refusal s) same ∙ free)) t
  with_event (event.Write u q place bytes) g t =
      let same : node.Write u q place bytes ≡ ev = cc in
      asking (event.Write u q place bytes) u (Some (place, bytes)) (event_adds_law c.trace (event.Write u q place bytes) []) (idle_before s u _ (ap (refusal s) same ∙ free)) t
  with_event (event.Begin m) g t = quiet (event.Begin m) (event_adds_law c.trace (event.Begin m) []) t
  with_event (event.Commit u) g t = quiet (event.Commit u) (event_adds_law c.trace (event.Commit u) []) t
  with_event (event.Abort u) g t = quiet (event.Abort u) (event_adds_law c.trace (event.Abort u) []) t
  with_event (event.Deliver from to) g t = quiet (event.Deliver from to) (event_adds_law c.trace (event.Deliver from to) []) t
  with_event (event.Evict m q) g t = quiet (event.Evict m q) (event_adds_law c.trace (event.Evict m q) []) t
  with_event (event.Flush m q) g t = quiet (event.Flush m q) (event_adds_law c.trace (event.Flush m q) []) t
  with_event (event.Crash m) g t = absurd (cc)
  with_event (event.View live owners) g t = absurd (cc)
  with_event (event.Install m) g t = quiet (event.Install m) (event_adds_law c.trace (event.Install m) []) t
  with_event event.Reopen g t = absurd (cc)
  with_event (event.Arm m call kept) g t = absurd (cc)
  with_event (event.Cut m) g t = quiet (event.Cut m) (event_adds_law c.trace (event.Cut m) []) t

  pub start_is_midway : IsMidway (base_of s) c e n (start_of c s)
  start_is_midway =
      record {
        base = base_is (base_of s) (base_sound s member.sound);
        config = member.config;
        number = member.number;
        view = v;
        in_view = viewed;
        there = subst (λ (o : Option View). IfSome o (λ (u : View). view_of_epoch c.views s.epoch ≡ Some u)) viewed member.view;
        made = member.reached;
        start = s;
        up = h.up;
        rises = omega arith;
        good = begun_good s c.disk member.sound (subst (λ (k : Sizes). DiskFits k c.disk) (sym member.config) i.disk);
        called = refl;
        asked = with_event e h.event;
      }
