-- The views that nodes have seen, by the kinds of steps.
use Rattle.std.proofs.Common.{◌≡◌, refl, subst, ℕ, Bool, false, List, [], ◌∷◌, ◌++◌, slice_index_or, slice_set, Some, None}
use Rattle.pcl_base.specs.declared.event.Event.{Event}
use Rattle.pcl_base.specs.declared.event.Event.TheVariants as event
use Rattle.pcl_base.specs.declared.reply.Reply.{Reply}
use Rattle.pcl_base.specs.declared.reply.Reply.TheVariants as reply
use Rattle.pcl_base.specs.declared.trace.Entry.{Entry}
use Rattle.run_rules.specs.Account.{after_entry}
use Rattle.run_rules.specs.Ledger.{Ledger}
use Rattle.run_rules.specs.Views.{View}
use Rattle.node_rules.specs.NodeState.{start_node}
use Rattle.node_laws.proofs.Lists.{set_look}
use Rattle.cluster_rules.specs.Clusters.{Cluster, node_at, last_view, lose, answer}
use Rattle.cluster_rules.specs.ClusterStep.{refuse, arm, halted, start_one, start_all, all_nodes, returning, make_view, make_reopened}
use Rattle.cluster_laws.specs.Sound.{IsCluster}
use Rattle.account_relation.specs.Ledgers.{Leaves}
use Rattle.account_relation.specs.Seen.{IsSeenIn, AreSeen, StepsKeepSeen}
use Rattle.account_relation.specs.World.{IsWorld, NothingDiffers}
use Rattle.account_relation.proofs.ByKind.{Kinds, by_kind}
use Rattle.account_relation.proofs.Leaving.{ledgers_are_one_law}
use Rattle.account_relation.proofs.Sights.{SameSeen, tells}
use Rattle.account_relation.proofs.SeenSteps.{in_moved, all_moved, quiet_seen}
use Rattle.account_relation.proofs.Telling.{entry}
use Rattle.account_relation.proofs.Whole.{Made}
use Rattle.account_relation.proofs.SeenActs.{one_node, acted}

module _ (c : Cluster) (l : Ledger) (i : IsCluster c) (world : IsWorld c l) (are : AreSeen c l) where
  -- ---- the other kinds

  -- a node that is lost
  lost_nodes : (m : Ledger) (n k : ℕ) → SameSeen l m → IsSeenIn c.config.nodes m k (slice_index_or (slice_set c.nodes n None) k None)
  lost_nodes m n k same = one_node c l i world are m n k None same tt

  -- nodes that start
  started : (m : Ledger) (e : ℕ) (ns : List ℕ) (d : Cluster) (k : ℕ) → IsSeenIn c.config.nodes m k (node_at d k) → IsSeenIn c.config.nodes m k (node_at (start_all e ns d) k)
  unfolding start_node
  started m e [] d k old = old
  started m e (n ∷ ns) d k old = started m e ns (start_one e d n) k (set_look (IsSeenIn c.config.nodes m k) None d.nodes n k (Some (start_node d.config n e)) (λ at. tt) old)

  started_sizes : (e : ℕ) (ns : List ℕ) (d : Cluster) → (start_all e ns d).config ≡ d.config
  started_sizes e [] d = refl
  started_sizes e (n ∷ ns) d = started_sizes e ns (start_one e d n)

-- what a step comes to
abbrev Comes : Cluster → Ledger → Event → Cluster → Type 0
Comes c l e d = NothingDiffers c e → (m : Ledger) → Leaves c.config d.trace m → AreSeen d m

module _ (c : Cluster) (l : Ledger) (i : IsCluster c) (leaves : Leaves c.config c.trace l) (world : IsWorld c l) (are : AreSeen c l) where
  after : (x : Entry) (m : Ledger) → Leaves c.config (c.trace ++ x ∷ []) m → after_entry x l ≡ Some m
  after x m further = ledgers_are_one_law c.config c.trace x l m leaves further

  told_alone : (e : Event) (r : Reply) (m : Ledger) → tells e r ≡ false → Leaves c.config (c.trace ++ entry e (r ∷ []) [] None ∷ []) m → SameSeen l m
  told_alone e r m none further = quiet_seen (entry e (r ∷ []) [] None) l m refl (none, tt) (after (entry e (r ∷ []) [] None) m further)

  same_nodes : (m : Ledger) → SameSeen l m → (k : ℕ) → IsSeenIn c.config.nodes m k (node_at c k)
  same_nodes m same k = in_moved c.config.nodes l m k (node_at c k) same (are.nodes k)

  seen_kinds : Kinds c (Comes c l)
  unfolding lose
  seen_kinds =
      record {
        refused = λ e r none m further. let same = told_alone e (reply.Refused r) m refl further in all_moved c (refuse e r c) l m refl same are (same_nodes m same);
        crashed = λ n none m further.
            let same = told_alone (event.Crash n) reply.Crashed m refl further in
            all_moved c (answer (event.Crash n) reply.Crashed (lose n c)) l m refl same are (λ k. lost_nodes c l i world are m n k same);
        armed = λ n call kept none m further.
            let same = told_alone (event.Arm n call kept) reply.Armed m refl further in all_moved c (arm (event.Arm n call kept) n call kept c) l m refl same are (same_nodes m same);
        viewed = λ live owners v made drops none m further.
            let same = told_alone (event.View live owners) (reply.Viewed v.epoch) m refl (view_trace live owners v m further) in
            let ns : List ℕ = returning (last_view c) v (all_nodes c) in
            all_moved c (make_view false (event.View live owners) v c) l m (started_sizes c l i world are (last_view c).epoch ns c) same are
            (λ k. started c l i world are m (last_view c).epoch ns c k (same_nodes m same k));
        reopened = λ v made down none m further.
            let same = told_alone event.Reopen (reply.Reopened v.epoch) m refl (reopen_trace v m further) in
            all_moved c (make_reopened false event.Reopen v c) l m (started_sizes c l i world are (last_view c).epoch (all_nodes c) c) same are
            (λ k. started c l i world are m (last_view c).epoch (all_nodes c) c k (same_nodes m same k));
        differs = λ e n s ev page expected found h goes none m further. absurd (none n s ev page expected found h goes);
        halts = λ e n s ev p d h goes left none m further.
            let x : Entry = entry e [] [] (Some (record { call = d.call; kept = d.kept })) in
            let same = quiet_seen x l m refl tt (after x m further) in
            all_moved c (halted e n d c) l m refl same are (λ k. lost_nodes c l i world are m n k same);
        goes = λ e n s ev p h goes left none m further. acted c l i world are e n s ev p h goes m (after (Made c e n s ev p h goes) m further);
      }
    where
      started_trace : (e : ℕ) (ns : List ℕ) (d : Cluster) → (start_all e ns d).trace ≡ d.trace
      started_trace e [] d = refl
      started_trace e (n ∷ ns) d = started_trace e ns (start_one e d n)

      view_trace : (live : List Bool) (owners : List ℕ) (v : View) (m : Ledger) → Leaves c.config (make_view false (event.View live owners) v c).trace m
          → Leaves c.config (c.trace ++ entry (event.View live owners) (reply.Viewed v.epoch ∷ []) [] None ∷ []) m
      view_trace live owners v m further =
          subst (λ (t : List Entry). Leaves c.config (t ++ entry (event.View live owners) (reply.Viewed v.epoch ∷ []) [] None ∷ []) m) (started_trace (last_view c).epoch (returning (last_view c) v (all_nodes c)) c) further

      reopen_trace : (v : View) (m : Ledger) → Leaves c.config (make_reopened false event.Reopen v c).trace m → Leaves c.config (c.trace ++ entry event.Reopen (reply.Reopened v.epoch ∷ []) [] None ∷ []) m
      reopen_trace v m further =
          subst (λ (t : List Entry). Leaves c.config (t ++ entry event.Reopen (reply.Reopened v.epoch ∷ []) [] None ∷ []) m) (started_trace (last_view c).epoch (all_nodes c) c) further

pub steps_keep_seen_law : StepsKeepSeen
steps_keep_seen_law c e l m i none leaves further world are = by_kind c (Comes c l) (seen_kinds c l i leaves world are) e none m further
