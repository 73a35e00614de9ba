-- What is known of the work once a transaction was closed and answered, whatever page.
use Rattle.std.proofs.Common.{◌≡◌, refl, sym, ap, subst, ◌∙◌, ℕ, ◌==◌, Bool, true, false, List, [], ◌∷◌, length, Option, Some, None, is_some, arith, eqb-true}
use Rattle.std.specs.Prelude.{IfSome}
use Rattle.pcl_base.specs.Limits.{Sizes}
use Rattle.pcl_base.specs.declared.event.Event.{Event}
use Rattle.pcl_base.specs.declared.lock.Pending.{Pending}
use Rattle.pcl_base.specs.declared.tx.TxId.{TxId}
use Rattle.text_rules.specs.LogRecord.{record_bytes}
use Rattle.run_rules.specs.Disk.{Disk}
use Rattle.run_rules.specs.Views.{View}
use Rattle.node_rules.specs.AccessRule.{on_pool}
use Rattle.node_rules.specs.BufferRule.{clean}
use Rattle.node_rules.specs.DiskCalls.{DiskCall, Force, done, all_done}
use Rattle.node_rules.specs.EndRule.{Ending, Closed, pages_written, commit_record}
use Rattle.node_rules.specs.NodeState.{NodeState, number_of, table_of}
use Rattle.node_rules.specs.OpenTxs.{is_own, with_serial, waiting_of_open, pending_of}
use Rattle.node_rules.specs.OwnerRule.{is_unserved, keep_dirty, clean_unserved}
use Rattle.node_rules.specs.Words.{pick, same_tx}
use Rattle.node_rules.specs.Work.{Work, work_of_home, with_home_work}
use Rattle.home_laws.proofs.Leaves.{clean_is_sound_law}
use Rattle.node_laws.specs.Nodes.{DiskFits}
use Rattle.node_laws.proofs.Bases.{base_of, base_is, base_sound, begun_good}
use Rattle.node_laws.proofs.Ends.{Ends, abort_good, commit_good}
use Rattle.node_laws.proofs.Works.{Base, IsBase, IsGood, good_reply, good_home}
use Rattle.rule_laws.proofs.Turns.{and_left}
use Rattle.cluster_rules.specs.Clusters.{Cluster, node_at, view_of_epoch}
use Rattle.cluster_laws.specs.Handed.{IsHanded}
use Rattle.cluster_laws.specs.Sound.{IsMember, IsCluster}
use Rattle.cluster_laws.proofs.Steps.{up_is_member_law}
use Rattle.page_laws.specs.Moment.Looks.{asked_last, with_entry}
use Rattle.page_laws.proofs.MomentParts.Growing.{nothing_tells_law, commit_tells_law}
use Rattle.page_relation.specs.Together.{WaitsAsAsked}
use Rattle.page_relation.specs.Work.Landing.{trace_of}
use Rattle.page_relation.specs.Work.StepEnds.{start_of}
use Rattle.end_relation.specs.Midway.{IsMidway}
use Rattle.end_relation.specs.Over.{event_of, reply_of, closed_of, over_of}
use Rattle.end_relation.proofs.Overs.{MayClose, IsOverWork, end_calls}
use Rattle.end_relation.proofs.Traced.{end_adds, end_trace}

-- ---- it is good

module _ (b : Base) (base : IsBase b) where
  dirty_good : (w : Work) (p : ℕ) → IsGood b w → IsGood b (keep_dirty w p)
  dirty_good w p good = by (is_unserved (table_of w.node p))
    where
      by : (x : Bool) → IsGood b (pick x (with_home_work w (on_pool (λ d. clean d p) (work_of_home w))) w)
      by true =
          let of = good.home in
          good_home b base (on_pool (λ d. clean d p) (work_of_home w)) w
          (record {
            home = record { config = of.config; number = of.number; born = of.born; home = clean_is_sound_law p w.node.home of.home; rights = of.rights };
            stored = good.stored;
          }) good
      by false = good

  cleaned_good : (es : List Ending) (w : Work) → IsGood b w → IsGood b (clean_unserved es w)
  unfolding clean_unserved
  cleaned_good [] w good = good
  cleaned_good (x ∷ es) w good = cleaned_good es (pick (is_some x.change) (keep_dirty w x.page) w) (by (is_some x.change))
    where
      by : (d : Bool) → IsGood b (pick d (keep_dirty w x.page) w)
      by true = dirty_good w x.page good
      by false = good

-- what was asked for last is so afterwards
end_asks : (c : Cluster) (e : Event) (n : ℕ) (s : NodeState) (b : Bool) (t : TxId) (i : IsCluster c) (h : IsHanded c e n s (event_of b t)) → (u : TxId) → asked_last u (with_entry c.trace e (reply_of b t ∷ []) []) ≡ asked_last u c.trace
end_asks c e n s true t i h u = (commit_tells_law c.config c.trace (with_entry c.trace e (reply_of true t ∷ []) []) t (end_adds c e n s true t i h)).asked u
end_asks c e n s false t i h u = (nothing_tells_law c.config c.trace (with_entry c.trace e (reply_of false t ∷ []) []) (end_adds c e n s false t i h)).asked u

-- the calls leave the pages
calls_pages : (n : ℕ) (d : Disk) (b : Bool) (s : NodeState) (t : TxId) → (all_done n d (end_calls b s.home t)).pages ≡ d.pages
unfolding done
calls_pages n d true s t = by (length (pages_written s.home t) == 0)
  where
    by : (x : Bool) → (all_done n d (pick x [] (Force t (record_bytes (commit_record s.home t)) ∷ []))).pages ≡ d.pages
    by true = refl
    by false = refl
calls_pages n d false s t = refl

module _ (c : Cluster) (e : Event) (n : ℕ) (s : NodeState) (b : Bool) (t : TxId) (i : IsCluster c) (h : IsHanded c e n s (event_of b t)) (asks : (u : TxId) → WaitsAsAsked c u (node_at c u.node)) (may : MayClose b s t)
    (is : IsOverWork b t c s (over_of b t c s)) where
  member : IsMember c.config c.views n s
  member = (up_is_member_law c n s i h.up).1

  -- who waits at the node waits for what it asked for last
  before : (u : TxId) → IfSome (pending_of s.home.txs u) (λ (x : Pending). x.write ≡ asked_last u c.trace)
  before u = by (is_own s.home.txs u) refl
    where
      by : (own : Bool) → is_own s.home.txs u ≡ own → IfSome (pending_of s.home.txs u) (λ (x : Pending). x.write ≡ asked_last u c.trace)
      by false own = subst (λ (d : Bool). IfSome (waiting_of_open (pick d (with_serial s.home.txs.txs u.serial) None)) (λ (x : Pending). x.write ≡ asked_last u c.trace)) (sym own) tt
      by true own =
          let at : u.node ≡ number_of s = eqb-true u.node s.home.txs.node (and_left (u.node == s.home.txs.node) (u.born == s.home.txs.born) own) in
          subst (WaitsAsAsked c u) h.up (subst (λ (k : ℕ). WaitsAsAsked c u (node_at c k)) (at ∙ member.number) (asks u))

  after : (u : TxId) → IfSome (pending_of (over_of b t c s).node.home.txs u) (λ (x : Pending). x.write ≡ asked_last u (trace_of c e n (over_of b t c s)))
  after u =
      subst (λ (v : Option (ℕ × List ℕ)). IfSome (pending_of (over_of b t c s).node.home.txs u) (λ (x : Pending). x.write ≡ v))
      (sym (ap (asked_last u) (end_trace c e n s b t i h (over_of b t c s) is.replies is.sends) ∙ end_asks c e n s b t i h u))
      (subst (λ (o : Option Pending). IfSome o (λ (x : Pending). x.write ≡ asked_last u c.trace)) (sym (is.over.home.waits u)) (by (same_tx u t)))
    where
      by : (d : Bool) → IfSome (pick d None (pending_of s.home.txs u)) (λ (x : Pending). x.write ≡ asked_last u c.trace)
      by true = tt
      by false = before u

  start_good : IsGood (base_of s) (start_of c s)
  start_good = begun_good s c.disk member.sound (subst (λ (k : Sizes). DiskFits k c.disk) (sym member.config) i.disk)

  -- what the end leaves of the home
  pub ends_are : Ends (base_of s) (closed_of b t (work_of_home (start_of c s)))
  ends_are = by b may.waits
    where
      by : (d : Bool) → (d ≡ true → pending_of s.home.txs t ≡ None) → Ends (base_of s) (closed_of d t (work_of_home (start_of c s)))
      by true waits = commit_good (base_of s) t (work_of_home (start_of c s)) may.there (waits refl) (record { home = start_good.home; stored = start_good.stored })
      by false waits = abort_good (base_of s) t (work_of_home (start_of c s)) may.there (record { home = start_good.home; stored = start_good.stored })

  over_good : IsGood (base_of s) (over_of b t c s)
  over_good =
      let base = base_is (base_of s) (base_sound s member.sound) in
      let x : Closed = closed_of b t (work_of_home (start_of c s)) in
      let m : Work = with_home_work (start_of c s) x.work in
      good_reply (base_of s) base (reply_of b t) (clean_unserved x.endings m)
      (cleaned_good (base_of s) base x.endings m (good_home (base_of s) base x.work (start_of c s) ends_are.work start_good))

  pub over_midway : IsMidway (base_of s) c e n (over_of b t c s)
  over_midway =
      record {
        base = base_is (base_of s) (base_sound s member.sound);
        config = member.config;
        number = member.number;
        view = may.view;
        in_view = may.in_view;
        there = subst (λ (o : Option View). IfSome o (λ (u : View). view_of_epoch c.views s.epoch ≡ Some u)) may.in_view member.view;
        made = member.reached;
        start = s;
        up = h.up;
        rises = omega arith;
        good = over_good;
        called = is.pages ∙ sym (ap (λ (ds : List DiskCall). (all_done n c.disk ds).pages) is.calls ∙ calls_pages n c.disk b s t);
        asked = after;
      }
