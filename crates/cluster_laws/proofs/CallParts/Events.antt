-- The calls of a step: partitions, messages, and the whole step.
use Rattle.std.proofs.Common.{◌≡◌, refl, ap, subst, ℕ, ◌==◌, nat_lt, Bool, true, false, List, [], ◌∷◌, ◌++◌, length, Option, Some, None}
use Rattle.std.specs.Prelude.{⊤}
use Rattle.pcl_base.specs.declared.lock.Verdict.{Verdict}
use Rattle.pcl_base.specs.declared.lock.Verdict.TheVariants as verdict
use Rattle.pcl_base.specs.declared.log.Record.{Record}
use Rattle.pcl_base.specs.declared.message.Body.{Body}
use Rattle.pcl_base.specs.declared.message.Body.TheVariants as body
use Rattle.pcl_base.specs.declared.message.Grant.{Grant}
use Rattle.pcl_base.specs.declared.message.Message.{Message}
use Rattle.pcl_base.specs.declared.message.Report.{Report}
use Rattle.pcl_base.specs.declared.message.ReturnRight.{ReturnRight}
use Rattle.pcl_base.specs.declared.reply.Reason.{Reason}
use Rattle.pcl_base.specs.declared.reply.Reply.{Reply}
use Rattle.pcl_base.specs.declared.reply.Reply.TheVariants as reply
use Rattle.pcl_base.specs.declared.tx.TxId.{TxId}
use Rattle.run_rules.specs.Disk.{Disk}
use Rattle.run_rules.specs.Views.{View, born_of, owner_of, since_of, count_from}
use Rattle.run_rules.specs.Redo.{redone, greatest, records_in, all_records}
use Rattle.text_rules.specs.LogRecord.{record_bytes, whole_len}
use Rattle.text_rules.specs.StoredPage.{PageAt, stored_bytes}
use Rattle.node_rules.specs.Words.{pick}
use Rattle.node_rules.specs.LockRule.{returned}
use Rattle.node_rules.specs.LockTable.{LockTable, pages_of}
use Rattle.node_rules.specs.NodeState.{NodeState, NodeEvent, Begin, Read, Write, Commit, Abort, Deliver, Evict, Flush, Install, Cut, number_of, table_at, table_of}
use Rattle.node_rules.specs.Work.{HomeWork, Work, Outcome, Goes, Differs, and_so, for_each, work_of_home, with_home, with_home_work, with_node, some_reply, reply, read_page}
use Rattle.node_rules.specs.AccessRule.{Arrived, Answered, on_grant, on_revoke}
use Rattle.node_rules.specs.EndRule.{pages_written, commit_record, force_if, commit, abort}
use Rattle.node_rules.specs.DiskCalls.{DiskCall, Force, TrimLog, CutLog}
use Rattle.node_rules.specs.OwnerRule.{settle_page}
use Rattle.node_rules.specs.InstallRule.{write_newer, redo_to, redo_page, settle_all, serve_table, begin_serving, complete_if, is_complete, complete, get_partition, redo_if, redo_lost, version_of_page, lost_nodes, purged, purge_work, keep_served, keep_in, owned_before, left_if, send_report, tell_new_owner, install_by, install_partition, trim_if, begin_life, in_view, install_view, take_report, on_report_in, on_report}
use Rattle.node_rules.specs.CutRule.{cuttable}
use Rattle.node_rules.specs.Refusals.{refusal}
use Rattle.node_rules.specs.NodeStep.{begin_work, after_grant, take_grant, send_answer, take_revoke, work_off, by_verdict, judge_in, partition_of, take_message, cut_if, cut_front, do_event, unless_refused, plan_of, nodestep}
use Rattle.step_laws.proofs.Outcomes.{On, on_then, on_so, on_each, on_any}
use Rattle.cluster_laws.proofs.Lists.{all_any}
use Rattle.cluster_laws.specs.Call.Calls.{call_unless, trimmed, cut_by, log_of_node, on_log, calls_unless_refused, log_calls, BeginsWith}
use Rattle.cluster_laws.specs.Call.CallLaws.{StepsBeginWithLogs}
use Rattle.cluster_laws.proofs.CallParts.Written.{begun, pushed, back_writes, arrived_writes}
use Rattle.cluster_laws.proofs.CallParts.Owned.{Calls, settle_calls, enter_calls, access_calls, release_calls, end_calls}

module _ (K : List DiskCall) where
  -- partitions
  redone_calls : (rs : List Record) (q p : ℕ) (w : Work) → Calls K w → On (Calls K) (redo_page rs q p w)
  unfolding redo_page
  redone_calls rs q p w i =
      on_so (λ (x : PageAt). ⊤) (Calls K) (read_page w.pages p) (λ old. redo_to q p old (redone rs p old) w) (on_any (read_page w.pages p))
      (λ old any. by (nat_lt old.version (redone rs p old).version) (redone rs p old))
    where
      by : (b : Bool) (at : PageAt) → BeginsWith K (write_newer b p at (work_of_home w)).calls
      by true at = pushed K w.calls p (stored_bytes p at) i
      by false at = i

  settled_calls : (q : ℕ) (w : Work) → Calls K w → On (Calls K) (settle_all q w)
  settled_calls q w i =
      on_each (Calls K) (λ (p : ℕ). ⊤) settle_page (λ p w any i. settle_calls K p w i) (pages_of w.node.home.config q) (all_any (pages_of w.node.home.config q)) w i

  serving_calls : (q : ℕ) (w : Work) → Calls K w → On (Calls K) (begin_serving q w)
  serving_calls q w i = settled_calls q (reply (reply.Serving q) (with_node w (serve_table q (table_at w.node q) w.node))) (by (table_at w.node q))
    where
      by : (o : Option LockTable) → Calls K (with_node w (serve_table q o w.node))
      by None = i
      by (Some t) = i

  complete_calls : (d : Disk) (q : ℕ) (w : Work) → Calls K w → On (Calls K) (complete d q w)
  unfolding complete
  complete_calls d q w i = by (is_complete w.node.view q (table_at w.node q))
    where
      by : (b : Bool) → On (Calls K) (complete_if b d q w)
      by false = i
      by true =
          on_then (Calls K) (Calls K) (for_each (redo_page (all_records w.node.home.config d) q) (pages_of w.node.home.config q) w) (begin_serving q)
          (on_each (Calls K) (λ (p : ℕ). ⊤) (redo_page (all_records w.node.home.config d) q) (λ p x any j. redone_calls (all_records w.node.home.config d) q p x j)
          (pages_of w.node.home.config q) (all_any (pages_of w.node.home.config q)) w i)
          (λ x j. serving_calls q x j)

  get_calls : (d : Disk) (q : ℕ) (w : Work) → Calls K w → On (Calls K) (get_partition d q w)
  unfolding get_partition
  get_calls d q w i = complete_calls d q _ i

  lost_calls : (lost rs : List Record) (q p : ℕ) (w : Work) → Calls K w → On (Calls K) (redo_lost lost rs q p w)
  lost_calls lost rs q p w i = by (nat_lt (version_of_page (table_at w.node q) p) (greatest lost p))
    where
      by : (b : Bool) → On (Calls K) (redo_if b rs q p w)
      by false = i
      by true = redone_calls rs q p w i

  purged_calls : (q : ℕ) (view : View) (w : Work) → Calls K w → Calls K (purge_work q view w)
  purged_calls q view w i = by (table_at w.node q)
    where
      by : (o : Option LockTable) → Calls K (with_node w (purged q view.live o w.node))
      by None = i
      by (Some t) = i

  keep_calls : (o : Option LockTable) (d : Disk) (before : Option View) (view : View) (q : ℕ) (w : Work) → Calls K w → On (Calls K) (keep_in o d before view q w)
  keep_calls None d before view q w i = i
  keep_calls (Some t) d before view q w i = by t.serving
    where
      by : (b : Bool) → On (Calls K) (keep_served b d before view q w)
      by true =
          on_then (Calls K) (Calls K)
          (for_each (redo_lost (records_in w.node.home.config d (lost_nodes before view)) (all_records w.node.home.config d) q) (pages_of w.node.home.config q) w)
          (λ x. settle_all q (purge_work q view x))
          (on_each (Calls K) (λ (p : ℕ). ⊤) (redo_lost (records_in w.node.home.config d (lost_nodes before view)) (all_records w.node.home.config d) q)
          (λ p x any j. lost_calls (records_in w.node.home.config d (lost_nodes before view)) (all_records w.node.home.config d) q p x j)
          (pages_of w.node.home.config q) (all_any (pages_of w.node.home.config q)) w i)
          (λ x j. settled_calls q (purge_work q view x) (purged_calls q view x j))
      by false = complete_calls d q (purge_work q view w) (purged_calls q view w i)

  left_calls : (before : Option View) (view : View) (q : ℕ) (w : Work) → Calls K w → Calls K (tell_new_owner before view q w)
  left_calls before view q w i = by (owned_before before q (number_of w.node))
    where
      by : (b : Bool) → Calls K (send_report q (owner_of view q) (with_node w (left_if b q w.node)))
      by true = i
      by false = i

  partition_calls : (d : Disk) (before : Option View) (view : View) (q : ℕ) (w : Work) → Calls K w → On (Calls K) (install_partition d before view q w)
  unfolding install_partition
  partition_calls d before view q w i = by (owner_of view q == number_of w.node) (since_of view q == view.epoch)
    where
      by : (a b : Bool) → On (Calls K) (install_by a b d before view q w)
      by true true = get_calls d q w i
      by true false = keep_calls (table_at w.node q) d before view q w i
      by false true = left_calls before view q w i
      by false false = i

  report_calls : (d : Disk) (from : ℕ) (r : Report) (w : Work) → Calls K w → On (Calls K) (on_report d from r w)
  unfolding on_report
  report_calls d from r w i = by (table_at w.node r.partition)
    where
      taken : (b : Bool) (t : LockTable) → On (Calls K) (take_report b d from r t w)
      taken true t = i
      taken false t = complete_calls d r.partition _ i

      by : (o : Option LockTable) → On (Calls K) (on_report_in d from r o w)
      by None = i
      by (Some t) = taken t.serving t

  -- messages
  after_calls : (a : Arrived) (w : Work) → BeginsWith K a.work.calls → Calls K (after_grant w a)
  after_calls a w i = by a.reply
    where
      by : (o : Option Reply) → Calls K (some_reply o (with_home_work w a.work))
      by None = i
      by (Some r) = i

  take_grant_calls : (o : Option LockTable) (g : Grant) (w : Work) → Calls K w → On (Calls K) (take_grant o g w)
  take_grant_calls None g w i =
      on_so (λ (a : Arrived). BeginsWith K a.work.calls) (Calls K) (on_grant g false (work_of_home w)) (after_grant w) (arrived_writes K g false (work_of_home w) i) (λ a b. after_calls a w b)
  take_grant_calls (Some t) g w i = i

  take_revoke_calls : (from : ℕ) (a : Answered) (w : Work) → Calls K w → Calls K (take_revoke from w a)
  take_revoke_calls from a w i = by a.answer
    where
      by : (o : Option ReturnRight) → Calls K (send_answer from o (with_home w a.home))
      by None = i
      by (Some r) = i

  work_off_calls : (d : Disk) (from : ℕ) (b : Body) (w : Work) → Calls K w → On (Calls K) (work_off d from b w)
  work_off_calls d from (body.Request r) w i = enter_calls K _ r.page w i
  work_off_calls d from (body.Grant g) w i = take_grant_calls (table_of w.node g.page) g w i
  work_off_calls d from (body.Release r) w i = release_calls K r w i
  work_off_calls d from (body.Revoke p) w i = take_revoke_calls from (on_revoke p w.node.home) w i
  work_off_calls d from (body.Return r) w i = enter_calls K (λ x. returned x from r.readers) r.page w i
  work_off_calls d from (body.Report r) w i = report_calls d from r w i

  message_calls : (d : Disk) (from : ℕ) (m : Message) (w : Work) → Calls K w → On (Calls K) (take_message d from m w)
  unfolding take_message
  message_calls d from m w i = by (judge_in w.node.view (number_of w.node) from m.epoch (partition_of w.node.home.config m.body))
    where
      by : (x : Verdict) → On (Calls K) (by_verdict x d from m.body w)
      by verdict.Taken = work_off_calls d from m.body (reply reply.Taken w) i
      by verdict.Held = i
      by verdict.Dropped = i

-- an install, where the node's life may begin
install_calls : (n : NodeState) (d : Disk) (v : View) → On (λ w. BeginsWith (on_log n d (Install v)) w.calls) (install_view d v (begin_work n d))
unfolding install_view
install_calls n d v =
    on_each (Calls K) (λ (q : ℕ). ⊤) (install_partition d n.view v) (λ q w any i. partition_calls K d n.view v q w i) (count_from 0 n.home.config.nodes) (all_any (count_from 0 n.home.config.nodes))
    (begin_life (born_of v (number_of n) == v.epoch) d v answered) (life (born_of v (number_of n) == v.epoch))
  where
    K : List DiskCall
    K = on_log n d (Install v)

    answered : Work
    answered = reply (reply.Installed v.epoch) (with_node (begin_work n d) (in_view v n))

    trim : (b : Bool) (keep : ℕ) (w : Work) → w.calls ≡ [] → BeginsWith (pick b (TrimLog keep ∷ []) []) (trim_if b keep w).calls
    trim true keep w none = record { writes = []; all = tt; joined = ap (λ (xs : List DiskCall). xs ++ TrimLog keep ∷ []) none }
    trim false keep w none = record { writes = []; all = tt; joined = none }

    life : (b : Bool) → BeginsWith (pick b (trimmed n d) []) (begin_life b d v answered).calls
    life true = trim (nat_lt (whole_len n.home.config (log_of_node n d)) (length (log_of_node n d))) (whole_len n.home.config (log_of_node n d)) _ refl
    life false = begun []

-- a cut
cut_calls : (w : Work) (o : Outcome ℕ) → w.calls ≡ [] → On (λ x. BeginsWith (cut_by o) x.calls) (and_so o (cut_front w))
cut_calls w (Goes count) none = by (count == 0)
  where
    by : (b : Bool) → BeginsWith (call_unless b (CutLog count)) (cut_if b count w).calls
    by true = record { writes = []; all = tt; joined = none }
    by false = record { writes = []; all = tt; joined = ap (λ (xs : List DiskCall). xs ++ CutLog count ∷ []) none }
cut_calls w (Differs p expected found) none = tt

-- a commit's record
forced_calls : (t : TxId) (bytes : List ℕ) (w : HomeWork) (b : Bool) → w.calls ≡ [] → BeginsWith (call_unless b (Force t bytes)) (force_if b t bytes w).calls
forced_calls t bytes w true none = record { writes = []; all = tt; joined = none }
forced_calls t bytes w false none = record { writes = []; all = tt; joined = ap (λ (xs : List DiskCall). xs ++ Force t bytes ∷ []) none }

committed_calls : (n : NodeState) (d : Disk) (t : TxId) → BeginsWith (on_log n d (Commit t)) (commit t (work_of_home (begin_work n d))).work.calls
unfolding commit
committed_calls n d t = forced_calls t (record_bytes (commit_record n.home t)) (work_of_home (begin_work n d)) (length (pages_written n.home t) == 0) refl

aborted_calls : (n : NodeState) (d : Disk) (t : TxId) → BeginsWith [] (abort t (work_of_home (begin_work n d))).work.calls
unfolding abort
aborted_calls n d t = begun []

event_calls : (n : NodeState) (d : Disk) (event : NodeEvent) → On (λ w. BeginsWith (on_log n d event) w.calls) (do_event d event (begin_work n d))
unfolding do_event
event_calls n d Begin = begun []
event_calls n d (Read t p) = access_calls [] _ (begin_work n d) (begun [])
event_calls n d (Write t p place bytes) = access_calls [] _ (begin_work n d) (begun [])
event_calls n d (Commit t) = end_calls (on_log n d (Commit t)) (reply.Committed t) t (begin_work n d) (commit t (work_of_home (begin_work n d))) (committed_calls n d t)
event_calls n d (Abort t) = end_calls [] (reply.Aborted t) t (begin_work n d) (abort t (work_of_home (begin_work n d))) (aborted_calls n d t)
event_calls n d (Deliver from m) = message_calls [] d from m (begin_work n d) (begun [])
event_calls n d (Evict p) = back_writes [] p (work_of_home (begin_work n d)) (begun [])
event_calls n d (Flush p) = back_writes [] p (work_of_home (begin_work n d)) (begun [])
event_calls n d (Install v) = install_calls n d v
event_calls n d Cut = cut_calls (begin_work n d) (cuttable n.home.config d.pages (log_of_node n d)) refl

step_calls : (n : NodeState) (event : NodeEvent) (d : Disk) → On (λ p. BeginsWith (log_calls n d event) p.calls) (nodestep n event d)
unfolding nodestep log_calls
step_calls n event d =
    on_so (λ w. BeginsWith (calls_unless_refused (refusal n event) (on_log n d event)) w.calls) (λ p. BeginsWith (calls_unless_refused (refusal n event) (on_log n d event)) p.calls)
    (unless_refused (refusal n event) d event (begin_work n d)) plan_of (by (refusal n event)) (λ w i. i)
  where
    by : (o : Option Reason) → On (λ w. BeginsWith (calls_unless_refused o (on_log n d event)) w.calls) (unless_refused o d event (begin_work n d))
    by (Some r) = begun []
    by None = event_calls n d event

pub steps_begin_with_logs_law : StepsBeginWithLogs
steps_begin_with_logs_law n event d p e = subst (On (λ p. BeginsWith (log_calls n d event) p.calls)) e (step_calls n event d)
