-- How the works of an install begin, and what each of them has of its node.
use Rattle.std.proofs.Common.{◌≡◌, refl, ap, sym, subst, ◌∙◌, ℕ, ◌+◌, ◌==◌, ◌&&◌, nat_lt, not, Bool, true, false, List, [], ◌∷◌, length, Option, Some, None, option_map, is_some, arith, eqb-true}
use Rattle.std.specs.Prelude.{IfSome}
use Rattle.pcl_base.specs.Limits.{Sizes}
use Rattle.pcl_base.specs.declared.event.Event.{Event}
use Rattle.pcl_base.specs.declared.event.Event.TheVariants as event
use Rattle.pcl_base.specs.declared.lock.Pending.{Pending}
use Rattle.pcl_base.specs.declared.message.Message.{Message}
use Rattle.pcl_base.specs.declared.reply.Reason.TheVariants as reason
use Rattle.pcl_base.specs.declared.reply.Reply.TheVariants as reply
use Rattle.pcl_base.specs.declared.tx.TxId.{TxId}
use Rattle.text_rules.specs.LogRecord.{whole_len}
use Rattle.run_rules.specs.Disk.{log_at}
use Rattle.run_rules.specs.Views.{View, born_of}
use Rattle.node_rules.specs.DiskCalls.{DiskCall, TrimLog, done}
use Rattle.node_rules.specs.InstallRule.{begin_life, born_at, in_view, trim_if}
use Rattle.node_rules.specs.NodeState.{NodeState, Deliver, Install, number_of}
use Rattle.node_rules.specs.OpenTxs.{is_own, with_serial, waiting_of_open, pending_of}
use Rattle.node_rules.specs.Refusals.{may_install, refusal}
use Rattle.node_rules.specs.Words.{pick}
use Rattle.node_rules.specs.Work.{Work, reply, with_node, work_of_home}
use Rattle.node_laws.specs.Nodes.{DiskFits, CanCome}
use Rattle.node_laws.proofs.Events.{not_refused}
use Rattle.cluster_rules.specs.Clusters.{Cluster, node_at, view_of_epoch}
use Rattle.cluster_rules.specs.Links.{head_at}
use Rattle.cluster_laws.specs.Handed.{handed_to}
use Rattle.cluster_laws.specs.Sound.{IsMember}
use Rattle.cluster_laws.proofs.Steps.{up_is_member_law, events_can_come_law}
use Rattle.cluster_laws.specs.Call.Calls.{BeginsWith, trimmed}
use Rattle.cluster_laws.proofs.EraParts.Epochs.{epoch_at, low_of}
use Rattle.page_laws.specs.Moment.Looks.{asked_last, with_entry, Adds}
use Rattle.page_laws.proofs.MomentParts.Entries.{event_adds_law}
use Rattle.page_laws.proofs.MomentParts.Growing.{nothing_tells_law}
use Rattle.page_relation.specs.Together.{WaitsAsAsked}
use Rattle.page_relation.specs.Work.Landing.{Acts, trace_of}
use Rattle.page_relation.specs.Work.Letting.{CalledBy}
use Rattle.page_relation.specs.Work.StepEnds.{start_of}
use Rattle.page_relation.proofs.WorkParts.Started.{acting}
use Rattle.settle_relation.specs.Midway.{IsMidway}
use Rattle.settle_relation.proofs.Midway.{reply_asks}
use Rattle.kept_relation.specs.Turn.Standing.{HasNext}
use Rattle.kept_relation.proofs.TurnParts.Unborn.{none_open}
use Rattle.install_relation.specs.Installing.{IsInstall, IsInstalling, numbers_at}
use Rattle.install_relation.specs.Unseen.{entered}
use Rattle.install_relation.proofs.Entered.{MayInstall, fact, epoch_some, start_good}

-- the view that is installed is the next one
pub next_of : (c : Cluster) (s : NodeState) (e : Event) (v : View) → handed_to c s e ≡ Some (Install v) → view_of_epoch c.views (s.epoch + 1) ≡ Some v
next_of c s (event.Install k) v h = by (view_of_epoch c.views (s.epoch + 1)) h
  where
    by : (o : Option View) → option_map Install o ≡ Some (Install v) → o ≡ Some v
    by None is = absurd (cc)
    by (Some u) is = let same : u ≡ v = cc in ap (λ (x : View). Some x) same
next_of c s (event.Deliver f to) v h = absurd (by (is_some s.view) (head_at c.links f to) h)
  where
    by : (b : Bool) (o : Option Message) → pick b (option_map (Deliver f) o) None ≡ Some (Install v) → ⊥
    by false o is = absurd (cc)
    by true None is = absurd (cc)
    by true (Some m) is = absurd (cc)
next_of c s (event.Begin k) v h = absurd (cc)
next_of c s (event.Read t p) v h = absurd (cc)
next_of c s (event.Write t p place bytes) v h = absurd (cc)
next_of c s (event.Commit t) v h = absurd (cc)
next_of c s (event.Abort t) v h = absurd (cc)
next_of c s (event.Evict k p) v h = absurd (cc)
next_of c s (event.Flush k p) v h = absurd (cc)
next_of c s (event.Crash k) v h = absurd (cc)
next_of c s (event.View live owners) v h = absurd (cc)
next_of c s event.Reopen v h = absurd (cc)
next_of c s (event.Arm k call kept) v h = absurd (cc)
next_of c s (event.Cut k) v h = absurd (cc)

first_of : (x y : Bool) → (x && y) ≡ true → x ≡ true
first_of true y e = refl
first_of false y e = absurd (cc)

-- no transaction where there are none of them
pub empty_of : {X : Type 0} (xs : List X) → length xs ≡ 0 → xs ≡ []
empty_of [] e = refl
empty_of (x ∷ xs) e = absurd (cc)

module _ (c : Cluster) (e : Event) (n : ℕ) (s : NodeState) (v : View) (i : IsInstall c e n s v) where
  pub member : IsMember c.config c.views n s
  member = (up_is_member_law c n s i.cluster i.handed.up).1

  pub acts : Acts c n
  acts = acting c e n s (Install v) i.cluster i.handed

  pub next : view_of_epoch c.views (s.epoch + 1) ≡ Some v
  next = next_of c s e v i.handed.event

  pub epoch : v.epoch ≡ s.epoch + 1
  epoch = epoch_at c (s.epoch + 1) v i.cluster next

  pub can : CanCome s (Install v)
  can = events_can_come_law c e n s (Install v) i.cluster i.handed

  fits : DiskFits s.home.config c.disk
  fits = subst (λ (k : Sizes). DiskFits k c.disk) (sym member.config) i.cluster.disk

  may : may_install s s.view v ≡ true
  unfolding refusal
  may = by (may_install s s.view v) refl
    where
      by : (b : Bool) → may_install s s.view v ≡ b → may_install s s.view v ≡ true
      by true is = is
      by false is = (let bad : true ≡ false = sym (ap not is) ∙ (not_refused (not (may_install s s.view v)) reason.NoView None i.free).0 in absurd (cc))

  pub installs : MayInstall s v
  installs = fact s c.disk v member.sound can fits may

  -- the node of a work of the install
  pub has_next : (k : ℕ) (w : Work) → IsMidway (numbers_at s v k) c e n w → HasNext c n s v w.node
  has_next k w m =
      record {
        up = i.handed.up;
        next = next;
        config = m.good.home.config ∙ member.config;
        number = m.good.home.number ∙ member.number;
        epoch = m.good.epoch ∙ epoch;
        view = m.good.view;
      }

  -- ---- what was asked for

  before : (t : TxId) → IfSome (pending_of s.home.txs t) (λ (x : Pending). x.write ≡ asked_last t c.trace)
  before t = by (is_own s.home.txs t) refl
    where
      by : (own : Bool) → is_own s.home.txs t ≡ own → IfSome (pending_of s.home.txs t) (λ (x : Pending). x.write ≡ asked_last t c.trace)
      by false own = subst (λ (d : Bool). IfSome (waiting_of_open (pick d (with_serial s.home.txs.txs t.serial) None)) (λ (x : Pending). x.write ≡ asked_last t c.trace)) (sym own) tt
      by true own =
          let at : t.node ≡ number_of s = eqb-true t.node s.home.txs.node (first_of (t.node == s.home.txs.node) (t.born == s.home.txs.born) own) in
          subst (WaitsAsAsked c t) i.handed.up (subst (λ (k : ℕ). WaitsAsAsked c t (node_at c k)) (at ∙ member.number) (i.asks t))

  -- an install asks for nothing
  quiet : (e2 : Event) → Adds c.trace [] (with_entry c.trace e2 [] []) → (t : TxId) → asked_last t (with_entry c.trace e2 [] []) ≡ asked_last t c.trace
  quiet e2 adds t = (nothing_tells_law c.config c.trace (with_entry c.trace e2 [] []) adds).asked t

  asked_on : (e2 : Event) → handed_to c s e2 ≡ Some (Install v) → (t : TxId) → asked_last t (with_entry c.trace e2 [] []) ≡ asked_last t c.trace
  asked_on (event.Read u q) g t = absurd (cc)
  asked_on (event.Write u q place bytes) g t = absurd (cc)
  asked_on (event.Begin m) g t = quiet (event.Begin m) (event_adds_law c.trace (event.Begin m) []) t
  asked_on (event.Commit u) g t = quiet (event.Commit u) (event_adds_law c.trace (event.Commit u) []) t
  asked_on (event.Abort u) g t = quiet (event.Abort u) (event_adds_law c.trace (event.Abort u) []) t
  asked_on (event.Deliver from to) g t = quiet (event.Deliver from to) (event_adds_law c.trace (event.Deliver from to) []) t
  asked_on (event.Evict m q) g t = quiet (event.Evict m q) (event_adds_law c.trace (event.Evict m q) []) t
  asked_on (event.Flush m q) g t = quiet (event.Flush m q) (event_adds_law c.trace (event.Flush m q) []) t
  asked_on (event.Crash m) g t = absurd (cc)
  asked_on (event.View live owners) g t = absurd (cc)
  asked_on (event.Install m) g t = quiet (event.Install m) (event_adds_law c.trace (event.Install m) []) t
  asked_on event.Reopen g t = absurd (cc)
  asked_on (event.Arm m call kept) g t = absurd (cc)
  asked_on (event.Cut m) g t = quiet (event.Cut m) (event_adds_law c.trace (event.Cut m) []) t

  abbrev start : Work
  start = start_of c s

  asked_now : (t : TxId) → asked_last t (with_entry c.trace e (reply.Installed v.epoch ∷ []) []) ≡ asked_last t c.trace
  asked_now t = reply_asks c e n (reply.Installed v.epoch) start refl t ∙ asked_on e i.handed.event t

  abbrev Asked : Work → Type 0
  Asked w = (t : TxId) → IfSome (pending_of w.node.home.txs t) (λ (x : Pending). x.write ≡ asked_last t (trace_of c e n w))

  still : (t : TxId) (o : Option Pending) → o ≡ None → IfSome o (λ (x : Pending). x.write ≡ asked_last t (with_entry c.trace e (reply.Installed v.epoch ∷ []) []))
  still t o none = subst (λ (o : Option Pending). IfSome o (λ (x : Pending). x.write ≡ asked_last t (with_entry c.trace e (reply.Installed v.epoch ∷ []) []))) (sym none) tt

  -- ---- the work before its partitions

  abbrev begun : Bool → Work
  begun x = begin_life x c.disk v (reply (reply.Installed v.epoch) (with_node start (in_view v s)))

  -- its calls, and what was asked for
  record Begins (front : List DiskCall) (w : Work) : Type 0 where
    called : CalledBy n c.disk (work_of_home w)
    asked : Asked w
    calls : BeginsWith front w.calls

  begins : (x : Bool) → (x ≡ true → length s.home.txs.txs ≡ 0) → Begins (pick x (trimmed s c.disk) []) (begun x)
  unfolding done
  begins false idle =
      record {
        called = refl;
        asked = λ t. subst (λ (k : Option (ℕ × List ℕ)). IfSome (pending_of s.home.txs t) (λ (x : Pending). x.write ≡ k)) (sym (asked_now t)) (before t);
        calls = record { writes = []; all = tt; joined = refl };
      }
  begins true idle = by (nat_lt keep (length log))
    where
      log : List ℕ
      log = log_at c.disk (number_of s)

      keep : ℕ
      keep = whole_len s.home.config log

      born : Work
      born = with_node (reply (reply.Installed v.epoch) start) (born_at v.epoch (in_view v s))

      asks : Asked born
      asks t = still t (pending_of born.node.home.txs t) (ap waiting_of_open (none_open born.node.home.txs t (empty_of s.home.txs.txs (idle refl))))

      by : (b : Bool) → Begins (pick b (TrimLog keep ∷ []) []) (trim_if b keep born)
      by true = record { called = refl; asked = asks; calls = record { writes = []; all = tt; joined = refl } }
      by false = record { called = refl; asked = asks; calls = record { writes = []; all = tt; joined = refl } }

  pub begins_installing : IsInstalling c e n s v 0 (entered c.disk v s start)
  begins_installing =
      let x : Bool = born_of v (number_of s) == v.epoch in
      let b = begins x installs.first in
      record {
        midway = record {
          base = record { number = member.sound.home.txs.node; epoch = epoch_some s c.disk v member.sound can fits may };
          config = member.config;
          number = member.number;
          view = v;
          in_view = refl;
          there = subst (λ (k : ℕ). view_of_epoch c.views k ≡ Some v) (sym epoch) next;
          made = (let low = low_of c (s.epoch + 1) v i.cluster next in let same = epoch in let high = low.1 in omega (arith, same, high));
          start = s;
          up = i.handed.up;
          rises = (let same = epoch in omega (arith, same));
          good = start_good s c.disk v member.sound can fits may x installs.first;
          called = b.called;
          asked = b.asked;
        };
        calls = b.calls;
      }
