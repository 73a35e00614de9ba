-- What is known of the work of an access of an own page, once it is in the page's entry.
use Rattle.std.proofs.Common.{◌≡◌, refl, ap, sym, subst, ◌∙◌, ℕ, ◌==◌, Bool, true, false, List, [], ◌∷◌, Option, Some, None, arith, eqb-true}
use Rattle.std.specs.Prelude.{IfSome}
use Rattle.pcl_base.specs.Limits.{Sizes}
use Rattle.pcl_base.specs.declared.event.Event.{Event}
use Rattle.pcl_base.specs.declared.lock.Pending.{Pending}
use Rattle.pcl_base.specs.declared.tx.TxId.{TxId}
use Rattle.run_rules.specs.Script.{Asks, asked}
use Rattle.run_rules.specs.Views.{View}
use Rattle.node_rules.specs.AccessRule.{Access, is_allowed, is_held, waiting}
use Rattle.node_rules.specs.LockRule.{ask}
use Rattle.node_rules.specs.LockTable.{LockTable, entry_at, put_entry}
use Rattle.node_rules.specs.NodeState.{NodeState, number_of, table_of}
use Rattle.node_rules.specs.OpenTxs.{is_own, with_serial, waiting_of_open, pending_of}
use Rattle.node_rules.specs.OwnerRule.{with_table}
use Rattle.node_rules.specs.Words.{pick}
use Rattle.node_rules.specs.Work.{HomeWork, Work, work_of_home}
use Rattle.home_laws.specs.Homes.{IsHome}
use Rattle.home_laws.specs.Refused.{access_refusal}
use Rattle.home_laws.proofs.Tests.{and_left}
use Rattle.node_laws.specs.Nodes.{DiskFits}
use Rattle.node_laws.proofs.Bases.{base_of, base_is, base_sound, begun_good}
use Rattle.node_laws.proofs.Entries.{ask_is}
use Rattle.node_laws.proofs.Grants.{access_good}
use Rattle.node_laws.proofs.Pages.{entry_good, entry_there}
use Rattle.node_laws.proofs.Transactions.{open_is_tx}
use Rattle.node_laws.proofs.Works.{Base, IsBase, IsHomeWork, IsGood, part_of, good_home}
use Rattle.cluster_rules.specs.Clusters.{Cluster, node_at, view_of_epoch}
use Rattle.cluster_laws.specs.Sound.{IsMember, IsCluster}
use Rattle.cluster_laws.proofs.Steps.{up_is_member_law}
use Rattle.page_laws.specs.Look.Accesses.{IsWaiting}
use Rattle.page_laws.proofs.LookParts.Accessing.{waiting_is_seen_law}
use Rattle.page_laws.specs.Moment.Looks.{asked_last, with_entry, Adds}
use Rattle.page_laws.specs.Moment.Tells.{TellsAsked}
use Rattle.page_laws.proofs.MomentParts.Entries.{event_adds_law}
use Rattle.page_laws.proofs.MomentParts.Growing.{ask_tells_law}
use Rattle.page_protocol.specs.State as machine
use Rattle.page_protocol.proofs.Basics.{same_tx_true, upd_same}
use Rattle.page_relation.specs.Together.{WaitsAsAsked}
use Rattle.page_relation.specs.Work.Landing.{trace_of}
use Rattle.page_relation.specs.Work.StepEnds.{start_of}
use Rattle.page_relation.proofs.WorkParts.Called.{frames_called}
use Rattle.end_relation.specs.Access.Events.{HasAskedAll}
use Rattle.end_relation.specs.Access.Midway.{IsMidway}
use Rattle.end_relation.proofs.AccessParts.Framed.{framed, owned, may, beside, opened, waiter, item, waits_is}
use Rattle.end_relation.proofs.AccessParts.Looking.{rules_apart}

module _ (c : Cluster) (e : Event) (n : ℕ) (s : NodeState) (x : Access) (i : IsCluster c) (up : node_at c n ≡ Some s) (fine : access_refusal x s.home ≡ None)
    (tells : asked e ≡ Asks x.tx x.write ∷ []) where
  abbrev w : Work
  w = start_of c s

  pub member : IsMember c.config c.views n s
  member = (up_is_member_law c n s i up).1

  abbrev pub home : IsHome s.home
  home = (up_is_member_law c n s i up).1.sound.home

  -- the event asks for the access
  starts : TellsAsked c.config c.trace (with_entry c.trace e [] []) x.tx x.write
  starts =
      ask_tells_law c.config c.trace (with_entry c.trace e [] []) x.tx x.write
      (subst (λ ms. Adds c.trace ms (with_entry c.trace e [] [])) tells (event_adds_law c.trace e []))

  pub asked_now : asked_last x.tx (trace_of c e n w) ≡ x.write
  asked_now = starts.asked x.tx ∙ upd_same (λ (u : TxId). asked_last u c.trace) x.tx x.write

  asked_others : (u : TxId) → machine.same_tx u x.tx ≡ false → asked_last u (trace_of c e n w) ≡ asked_last u c.trace
  asked_others u off = starts.asked u ∙ ap (λ (b : Bool). machine.pick b x.write (asked_last u c.trace)) off

  -- what waited before
  waited : HasAskedAll c → (u : TxId) → IfSome (pending_of s.home.txs u) (λ (k : Pending). k.write ≡ asked_last u c.trace)
  waited asks u = by (is_own s.home.txs u) refl
    where
      by : (own : Bool) → is_own s.home.txs u ≡ own → IfSome (pending_of s.home.txs u) (λ (k : Pending). k.write ≡ asked_last u c.trace)
      by false own =
          subst (λ (d : Bool). IfSome (waiting_of_open (pick d (with_serial s.home.txs.txs u.serial) None)) (λ (k : Pending). k.write ≡ asked_last u c.trace)) (sym own) tt
      by true own =
          let at : u.node ≡ number_of s = eqb-true u.node s.home.txs.node (and_left (u.node == s.home.txs.node) (u.born == s.home.txs.born) own) in
          subst (WaitsAsAsked c u) up (subst (λ (k : ℕ). WaitsAsAsked c u (node_at c k)) (at ∙ member.number) (asks u))

  -- what waits once the access does
  waits_asked : HasAskedAll c → (u : TxId)
      → IfSome (pending_of (waiter x w home fine).node.home.txs u) (λ (k : Pending). k.write ≡ asked_last u (trace_of c e n w))
  waits_asked asks u = by (machine.same_tx u x.tx) refl
    where
      seen : IsWaiting x (framed x w home fine).node.home (waiting x (framed x w home fine).node.home)
      seen = waiting_is_seen_law x (framed x w home fine).node.home (opened x w home fine)

      by : (b : Bool) → machine.same_tx u x.tx ≡ b → IfSome (pending_of (waiter x w home fine).node.home.txs u) (λ (k : Pending). k.write ≡ asked_last u (trace_of c e n w))
      by true same =
          subst (λ (v : TxId). IfSome (pending_of (waiter x w home fine).node.home.txs v) (λ (k : Pending). k.write ≡ asked_last v (trace_of c e n w))) (sym (same_tx_true u x.tx same))
          (subst (λ (o : Option Pending). IfSome o (λ (k : Pending). k.write ≡ asked_last x.tx (trace_of c e n w))) (sym seen.waits) (sym asked_now))
      by false off =
          subst (λ (o : Option Pending). IfSome o (λ (k : Pending). k.write ≡ asked_last u (trace_of c e n w)))
          (sym (seen.other_waits u (rules_apart x.tx u off) ∙ (beside x w home fine).locks.waits u))
          (subst (λ (v : Option (ℕ × List ℕ)). IfSome (pending_of s.home.txs u) (λ (k : Pending). k.write ≡ v)) (sym (asked_others u off)) (waited asks u))

  -- ---- the work is good

  abbrev b : Base
  b = base_of s

  base : IsBase b
  base = base_is b (base_sound s member.sound)

  begun : IsGood b w
  begun = begun_good s c.disk member.sound (subst (λ (k : Sizes). DiskFits k c.disk) (sym member.config) i.disk)

  waits_good : is_held x s.home ≡ false → is_allowed x (owned x w home fine) s.home ≡ false → IsGood b (waiter x w home fine)
  waits_good held allows =
      good_home b base (work_of_home (waiter x w home fine)) w
      (subst (λ (y : HomeWork). IsHomeWork b y) (ap (λ y. y.work) (waits_is x w home fine held allows))
      (access_good b x (owned x w home fine) (work_of_home w) fine (may x w home fine).page (part_of b base w begun)))
      begun

  module _ (t : LockTable) (there : table_of (waiter x w home fine).node x.page ≡ Some t) where
    abbrev pub entered : Work
    entered = with_table x.page (put_entry t x.page (ask (entry_at t x.page) (item x w home fine))) (waiter x w home fine)

    entered_good : IsGood b (waiter x w home fine) → IsGood b entered
    entered_good good =
        entry_good b base x.page (may x w home fine).page t (ask (entry_at t x.page) (item x w home fine)) (waiter x w home fine) there
        (ask_is b.config b.number (entry_at t x.page) (item x w home fine) (entry_there b base x.page (may x w home fine).page t (waiter x w home fine) there good)
        (open_is_tx s.home x.tx home (may x w home fine).there))
        good

    pub entered_midway : HasAskedAll c → (v : View) → s.view ≡ Some v → is_held x s.home ≡ false → is_allowed x (owned x w home fine) s.home ≡ false → IsMidway b c e n entered
    entered_midway asks v viewed held allows =
        record {
          base = base;
          config = member.config;
          number = member.number;
          view = v;
          in_view = viewed;
          there = subst (λ (o : Option View). IfSome o (λ (u : View). view_of_epoch c.views s.epoch ≡ Some u)) viewed member.view;
          made = member.reached;
          start = s;
          up = up;
          rises = omega arith;
          good = entered_good (waits_good held allows);
          called = frames_called n c.disk x (work_of_home w) refl;
          asked = waits_asked asks;
        }
