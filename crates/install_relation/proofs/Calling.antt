-- The calls of a partition's turn write pages alone.
use Rattle.std.proofs.Common.{nat_lt, ◌==◌, ℕ, Bool, true, false, List, Option, Some, None}
use Rattle.std.specs.Prelude.{⊤}
use Rattle.pcl_base.specs.declared.log.Record.{Record}
use Rattle.text_rules.specs.StoredPage.{PageAt, stored_bytes}
use Rattle.run_rules.specs.Disk.{Disk}
use Rattle.run_rules.specs.Redo.{redone, greatest, records_in, all_records}
use Rattle.run_rules.specs.Views.{View, owner_of, since_of}
use Rattle.node_rules.specs.DiskCalls.{DiskCall}
use Rattle.node_rules.specs.InstallRule.{write_newer, redo_to, redo_page, settle_all, serve_table, begin_serving, complete_if, is_complete, complete, get_partition, redo_if, redo_lost, version_of_page, lost_nodes, purged, purge_work, keep_served, keep_in, owned_before, left_if, send_report, tell_new_owner, install_by, install_partition}
use Rattle.node_rules.specs.LockTable.{LockTable, pages_of}
use Rattle.node_rules.specs.NodeState.{number_of, table_at}
use Rattle.node_rules.specs.OwnerRule.{settle_page}
use Rattle.node_rules.specs.Work.{Work, for_each, read_page, reply, with_node, work_of_home}
use Rattle.pcl_base.specs.declared.reply.Reply.TheVariants as reply
use Rattle.step_laws.proofs.Outcomes.{On, on_so, on_then, on_each, on_any}
use Rattle.cluster_laws.proofs.Lists.{all_any}
use Rattle.cluster_laws.specs.Call.Calls.{BeginsWith}
use Rattle.cluster_laws.proofs.CallParts.Written.{pushed}
use Rattle.cluster_laws.proofs.CallParts.Owned.{Calls, settle_calls}

module _ (K : List DiskCall) where
  -- partitions
  redone_calls : (rs : List Record) (q p : ℕ) (w : Work) → Calls K w → On (Calls K) (redo_page rs q p w)
  unfolding redo_page
  redone_calls rs q p w i =
      on_so (λ (x : PageAt). ⊤) (Calls K) (read_page w.pages p) (λ old. redo_to q p old (redone rs p old) w) (on_any (read_page w.pages p))
      (λ old any. by (nat_lt old.version (redone rs p old).version) (redone rs p old))
    where
      by : (b : Bool) (at : PageAt) → BeginsWith K (write_newer b p at (work_of_home w)).calls
      by true at = pushed K w.calls p (stored_bytes p at) i
      by false at = i

  settled_calls : (q : ℕ) (w : Work) → Calls K w → On (Calls K) (settle_all q w)
  settled_calls q w i =
      on_each (Calls K) (λ (p : ℕ). ⊤) settle_page (λ p w any i. settle_calls K p w i) (pages_of w.node.home.config q) (all_any (pages_of w.node.home.config q)) w i

  serving_calls : (q : ℕ) (w : Work) → Calls K w → On (Calls K) (begin_serving q w)
  serving_calls q w i = settled_calls q (reply (reply.Serving q) (with_node w (serve_table q (table_at w.node q) w.node))) (by (table_at w.node q))
    where
      by : (o : Option LockTable) → Calls K (with_node w (serve_table q o w.node))
      by None = i
      by (Some t) = i

  complete_calls : (d : Disk) (q : ℕ) (w : Work) → Calls K w → On (Calls K) (complete d q w)
  unfolding complete
  complete_calls d q w i = by (is_complete w.node.view q (table_at w.node q))
    where
      by : (b : Bool) → On (Calls K) (complete_if b d q w)
      by false = i
      by true =
          on_then (Calls K) (Calls K) (for_each (redo_page (all_records w.node.home.config d) q) (pages_of w.node.home.config q) w) (begin_serving q)
          (on_each (Calls K) (λ (p : ℕ). ⊤) (redo_page (all_records w.node.home.config d) q) (λ p x any j. redone_calls (all_records w.node.home.config d) q p x j)
          (pages_of w.node.home.config q) (all_any (pages_of w.node.home.config q)) w i)
          (λ x j. serving_calls q x j)

  get_calls : (d : Disk) (q : ℕ) (w : Work) → Calls K w → On (Calls K) (get_partition d q w)
  unfolding get_partition
  get_calls d q w i = complete_calls d q _ i

  lost_calls : (lost rs : List Record) (q p : ℕ) (w : Work) → Calls K w → On (Calls K) (redo_lost lost rs q p w)
  lost_calls lost rs q p w i = by (nat_lt (version_of_page (table_at w.node q) p) (greatest lost p))
    where
      by : (b : Bool) → On (Calls K) (redo_if b rs q p w)
      by false = i
      by true = redone_calls rs q p w i

  purged_calls : (q : ℕ) (view : View) (w : Work) → Calls K w → Calls K (purge_work q view w)
  purged_calls q view w i = by (table_at w.node q)
    where
      by : (o : Option LockTable) → Calls K (with_node w (purged q view.live o w.node))
      by None = i
      by (Some t) = i

  keep_calls : (o : Option LockTable) (d : Disk) (before : Option View) (view : View) (q : ℕ) (w : Work) → Calls K w → On (Calls K) (keep_in o d before view q w)
  keep_calls None d before view q w i = i
  keep_calls (Some t) d before view q w i = by t.serving
    where
      by : (b : Bool) → On (Calls K) (keep_served b d before view q w)
      by true =
          on_then (Calls K) (Calls K)
          (for_each (redo_lost (records_in w.node.home.config d (lost_nodes before view)) (all_records w.node.home.config d) q) (pages_of w.node.home.config q) w)
          (λ x. settle_all q (purge_work q view x))
          (on_each (Calls K) (λ (p : ℕ). ⊤) (redo_lost (records_in w.node.home.config d (lost_nodes before view)) (all_records w.node.home.config d) q)
          (λ p x any j. lost_calls (records_in w.node.home.config d (lost_nodes before view)) (all_records w.node.home.config d) q p x j)
          (pages_of w.node.home.config q) (all_any (pages_of w.node.home.config q)) w i)
          (λ x j. settled_calls q (purge_work q view x) (purged_calls q view x j))
      by false = complete_calls d q (purge_work q view w) (purged_calls q view w i)

  left_calls : (before : Option View) (view : View) (q : ℕ) (w : Work) → Calls K w → Calls K (tell_new_owner before view q w)
  left_calls before view q w i = by (owned_before before q (number_of w.node))
    where
      by : (b : Bool) → Calls K (send_report q (owner_of view q) (with_node w (left_if b q w.node)))
      by true = i
      by false = i

  pub partition_calls : (d : Disk) (before : Option View) (view : View) (q : ℕ) (w : Work) → Calls K w → On (Calls K) (install_partition d before view q w)
  unfolding install_partition
  partition_calls d before view q w i = by (owner_of view q == number_of w.node) (since_of view q == view.epoch)
    where
      by : (a b : Bool) → On (Calls K) (install_by a b d before view q w)
      by true true = get_calls d q w i
      by true false = keep_calls (table_at w.node q) d before view q w i
      by false true = left_calls before view q w i
      by false false = i
