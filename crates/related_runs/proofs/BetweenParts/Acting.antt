-- Exclusive locks within a step: partitions, messages, and the whole step.
use Rattle.std.proofs.Common.{◌≡◌, sym, subst, ℕ, ◌+◌, ◌==◌, nat_lt, Bool, true, false, List, [], ◌∷◌, Option, Some, None}
use Rattle.std.specs.Prelude.{⊤}
use Rattle.pcl_base.specs.declared.lock.Verdict.{Verdict}
use Rattle.pcl_base.specs.declared.lock.Verdict.TheVariants as verdict
use Rattle.pcl_base.specs.declared.lock.Kind.TheVariants as kind
use Rattle.pcl_base.specs.declared.log.Record.{Record}
use Rattle.pcl_base.specs.declared.message.Body.{Body}
use Rattle.pcl_base.specs.declared.message.Body.TheVariants as body
use Rattle.pcl_base.specs.declared.message.Grant.{Grant}
use Rattle.pcl_base.specs.declared.message.Message.{Message}
use Rattle.pcl_base.specs.declared.message.Report.{Report}
use Rattle.pcl_base.specs.declared.message.ReturnRight.{ReturnRight}
use Rattle.pcl_base.specs.declared.reply.Reason.{Reason}
use Rattle.pcl_base.specs.declared.reply.Reply.{Reply}
use Rattle.pcl_base.specs.declared.reply.Reply.TheVariants as reply
use Rattle.run_rules.specs.Disk.{Disk, log_at}
use Rattle.run_rules.specs.Views.{View, born_of, owner_of, since_of, count_from}
use Rattle.run_rules.specs.Redo.{redone, greatest, records_in, all_records}
use Rattle.text_rules.specs.StoredPage.{PageAt}
use Rattle.node_rules.specs.LockRule.{returned}
use Rattle.node_rules.specs.LockTable.{LockTable, pages_of}
use Rattle.node_rules.specs.NodeState.{NodeState, NodeEvent, Begin, Read, Write, Commit, Abort, Deliver, Evict, Flush, Install, Cut, number_of, table_at, table_of}
use Rattle.node_rules.specs.OpenTxs.{name_of, begin}
use Rattle.node_rules.specs.Work.{Work, Goes, write_back, for_each, work_of_home, with_home, with_home_work, with_node, some_reply, reply, read_page}
use Rattle.node_rules.specs.AccessRule.{Arrived, Answered, on_grant, on_revoke}
use Rattle.node_rules.specs.EndRule.{commit, abort}
use Rattle.node_rules.specs.OwnerRule.{settle_page}
use Rattle.node_rules.specs.InstallRule.{redo_to, redo_page, settle_all, serve_table, begin_serving, complete_if, is_complete, complete, get_partition, redo_if, redo_lost, version_of_page, lost_nodes, purged, purge_work, keep_served, keep_in, owned_before, left_if, send_report, tell_new_owner, install_by, install_partition, begin_life, in_view, install_view, take_report, on_report_in, on_report}
use Rattle.node_rules.specs.CutRule.{cuttable}
use Rattle.node_rules.specs.Refusals.{refusal}
use Rattle.node_rules.specs.NodeStep.{Plan, begin_work, after_grant, take_grant, send_answer, take_revoke, work_off, by_verdict, judge_in, partition_of, take_message, cut_if, cut_front, cut_log, do_event, unless_refused, plan_of, nodestep}
use Rattle.step_laws.proofs.Outcomes.{On, on_then, on_so, on_each, on_any}
use Rattle.cluster_laws.proofs.Lists.{all_any}
use Rattle.related_runs.proofs.BetweenParts.Marks.{txs_more, begins, kinds_fine}
use Rattle.related_runs.proofs.BetweenParts.Granting.{Kept, with_reply, ArrivalKept, revoked_kept, aborted_kept, committed_kept, back_kept, arrived_kept, newer_kept}
use Rattle.related_runs.proofs.BetweenParts.Owning.{IsRight, replied, settle_right, enter_right, access_right, release_right, end_right}

module _ (node born : ℕ) (f : ℕ → Option (ℕ × List ℕ)) (Old : ℕ → ℕ → Type 0) where
  abbrev pub Right : Work → Type 0
  Right w = IsRight node born f Old w

  -- partitions
  redone_right : (rs : List Record) (q p : ℕ) (w : Work) → Right w → On Right (redo_page rs q p w)
  unfolding redo_page
  redone_right rs q p w i =
      on_so (λ (x : PageAt). ⊤) Right (read_page w.pages p) (λ old. redo_to q p old (redone rs p old) w) (on_any (read_page w.pages p))
      (λ old any. newer_kept node born f Old w.replies (nat_lt old.version (redone rs p old).version) p (redone rs p old) (work_of_home w) i)

  settled_right : (q : ℕ) (w : Work) → Right w → On Right (settle_all q w)
  settled_right q w i =
      on_each Right (λ (p : ℕ). ⊤) settle_page (λ p w any i. settle_right node born f Old p w i) (pages_of w.node.home.config q) (all_any (pages_of w.node.home.config q)) w i

  serving_right : (q : ℕ) (w : Work) → Right w → On Right (begin_serving q w)
  serving_right q w i = settled_right q (reply (reply.Serving q) (with_node w (serve_table q (table_at w.node q) w.node))) (by (table_at w.node q))
    where
      by : (o : Option LockTable) → Right (reply (reply.Serving q) (with_node w (serve_table q o w.node)))
      by None = replied node born f Old (reply.Serving q) w i
      by (Some t) = replied node born f Old (reply.Serving q) w i

  complete_right : (d : Disk) (q : ℕ) (w : Work) → Right w → On Right (complete d q w)
  unfolding complete
  complete_right d q w i = by (is_complete w.node.view q (table_at w.node q))
    where
      by : (b : Bool) → On Right (complete_if b d q w)
      by false = i
      by true =
          on_then Right Right (for_each (redo_page (all_records w.node.home.config d) q) (pages_of w.node.home.config q) w) (begin_serving q)
          (on_each Right (λ (p : ℕ). ⊤) (redo_page (all_records w.node.home.config d) q) (λ p x any j. redone_right (all_records w.node.home.config d) q p x j)
          (pages_of w.node.home.config q) (all_any (pages_of w.node.home.config q)) w i)
          (λ x j. serving_right q x j)

  get_right : (d : Disk) (q : ℕ) (w : Work) → Right w → On Right (get_partition d q w)
  unfolding get_partition
  get_right d q w i = complete_right d q _ (kinds_fine node born f Old w.replies q kind.Own w.node.home i)

  lost_right : (lost rs : List Record) (q p : ℕ) (w : Work) → Right w → On Right (redo_lost lost rs q p w)
  lost_right lost rs q p w i = by (nat_lt (version_of_page (table_at w.node q) p) (greatest lost p))
    where
      by : (b : Bool) → On Right (redo_if b rs q p w)
      by false = i
      by true = redone_right rs q p w i

  purged_right : (q : ℕ) (view : View) (w : Work) → Right w → Right (purge_work q view w)
  purged_right q view w i = by (table_at w.node q)
    where
      by : (o : Option LockTable) → Right (with_node w (purged q view.live o w.node))
      by None = i
      by (Some t) = i

  keep_right : (o : Option LockTable) (d : Disk) (before : Option View) (view : View) (q : ℕ) (w : Work) → Right w → On Right (keep_in o d before view q w)
  keep_right None d before view q w i = i
  keep_right (Some t) d before view q w i = by t.serving
    where
      by : (b : Bool) → On Right (keep_served b d before view q w)
      by true =
          on_then Right Right
          (for_each (redo_lost (records_in w.node.home.config d (lost_nodes before view)) (all_records w.node.home.config d) q) (pages_of w.node.home.config q) w)
          (λ x. settle_all q (purge_work q view x))
          (on_each Right (λ (p : ℕ). ⊤) (redo_lost (records_in w.node.home.config d (lost_nodes before view)) (all_records w.node.home.config d) q)
          (λ p x any j. lost_right (records_in w.node.home.config d (lost_nodes before view)) (all_records w.node.home.config d) q p x j)
          (pages_of w.node.home.config q) (all_any (pages_of w.node.home.config q)) w i)
          (λ x j. settled_right q (purge_work q view x) (purged_right q view x j))
      by false = complete_right d q (purge_work q view w) (purged_right q view w i)

  left_right : (before : Option View) (view : View) (q : ℕ) (w : Work) → Right w → Right (tell_new_owner before view q w)
  left_right before view q w i = by (owned_before before q (number_of w.node))
    where
      by : (b : Bool) → Right (send_report q (owner_of view q) (with_node w (left_if b q w.node)))
      by true = kinds_fine node born f Old w.replies q kind.Registered w.node.home i
      by false = i

  partition_right : (d : Disk) (before : Option View) (view : View) (q : ℕ) (w : Work) → Right w → On Right (install_partition d before view q w)
  unfolding install_partition
  partition_right d before view q w i = by (owner_of view q == number_of w.node) (since_of view q == view.epoch)
    where
      by : (a b : Bool) → On Right (install_by a b d before view q w)
      by true true = get_right d q w i
      by true false = keep_right (table_at w.node q) d before view q w i
      by false true = left_right before view q w i
      by false false = i

  report_right : (d : Disk) (from : ℕ) (r : Report) (w : Work) → Right w → On Right (on_report d from r w)
  unfolding on_report
  report_right d from r w i = by (table_at w.node r.partition)
    where
      taken : (b : Bool) (t : LockTable) → On Right (take_report b d from r t w)
      taken true t = i
      taken false t = complete_right d r.partition _ i

      by : (o : Option LockTable) → On Right (on_report_in d from r o w)
      by None = i
      by (Some t) = taken t.serving t

  -- messages
  after_right : (a : Arrived) (w : Work) → ArrivalKept node born f Old w.replies a → Right (after_grant w a)
  after_right a w kept = by a.reply kept
    where
      by : (o : Option Reply) → Kept node born f Old (with_reply node born f Old w.replies o) a.work.home → Right (some_reply o (with_home_work w a.work))
      by None k = k
      by (Some r) k = k

  take_grant_right : (o : Option LockTable) (g : Grant) (w : Work) → Right w → On Right (take_grant o g w)
  take_grant_right None g w i =
      on_so (ArrivalKept node born f Old w.replies) Right (on_grant g false (work_of_home w)) (after_grant w) (arrived_kept node born f Old w.replies g false (work_of_home w) i)
      (λ a b. after_right a w b)
  take_grant_right (Some t) g w i = i

  take_revoke_right : (from : ℕ) (a : Answered) (w : Work) → Kept node born f Old w.replies a.home → Right (take_revoke from w a)
  take_revoke_right from a w kept = by a.answer
    where
      by : (o : Option ReturnRight) → Right (send_answer from o (with_home w a.home))
      by None = kept
      by (Some r) = kept

  work_off_right : (d : Disk) (from : ℕ) (b : Body) (w : Work) → Right w → On Right (work_off d from b w)
  work_off_right d from (body.Request r) w i = enter_right node born f Old _ r.page w i
  work_off_right d from (body.Grant g) w i = take_grant_right (table_of w.node g.page) g w i
  work_off_right d from (body.Release r) w i = release_right node born f Old r w i
  work_off_right d from (body.Revoke p) w i = take_revoke_right from (on_revoke p w.node.home) w (revoked_kept node born f Old w.replies p w.node.home i)
  work_off_right d from (body.Return r) w i = enter_right node born f Old (λ x. returned x from r.readers) r.page w i
  work_off_right d from (body.Report r) w i = report_right d from r w i

  message_right : (d : Disk) (from : ℕ) (m : Message) (w : Work) → Right w → On Right (take_message d from m w)
  unfolding take_message
  message_right d from m w i = by (judge_in w.node.view (number_of w.node) from m.epoch (partition_of w.node.home.config m.body))
    where
      by : (x : Verdict) → On Right (by_verdict x d from m.body w)
      by verdict.Taken = work_off_right d from m.body (reply reply.Taken w) (replied node born f Old reply.Taken w i)
      by verdict.Held = replied node born f Old reply.Held w i
      by verdict.Dropped = replied node born f Old reply.Dropped w i

  cut_right : (d : Disk) (w : Work) → Right w → On Right (cut_log d w)
  cut_right d w i =
      on_so (λ (x : ℕ). ⊤) Right (cuttable w.node.home.config d.pages (log_at d (number_of w.node))) (cut_front w)
      (on_any (cuttable w.node.home.config d.pages (log_at d (number_of w.node)))) (λ x any. by x (x == 0))
    where
      by : (x : ℕ) (b : Bool) → Right (reply (reply.Cut x) (cut_if b x w))
      by x true = replied node born f Old (reply.Cut x) w i
      by x false = replied node born f Old (reply.Cut x) w i

  -- an install, from the work before its partitions
  abbrev pub life : Disk → View → Work → Work
  life d view w = begin_life (born_of view (number_of w.node) == view.epoch) d view (reply (reply.Installed view.epoch) (with_node w (in_view view w.node)))

  install_right : (d : Disk) (view : View) (w : Work) → Right (life d view w) → On Right (install_view d view w)
  unfolding install_view
  install_right d view w i =
      on_each Right (λ (q : ℕ). ⊤) (install_partition d w.node.view view) (λ q w' any i. partition_right d w.node.view view q w' i)
      (count_from 0 w.node.home.config.nodes) (all_any (count_from 0 w.node.home.config.nodes)) (life d view w) i

  -- what an event starts from
  abbrev pub Starts : NodeState → Disk → NodeEvent → Type 0
  Starts n d (Read t p) = (None ≡ f t.serial) × Kept node born f Old [] n.home
  Starts n d (Write t p place bytes) = (Some (place, bytes) ≡ f t.serial) × Kept node born f Old [] n.home
  Starts n d (Install v) = Right (life d v (begin_work n d))
  Starts n d event = Kept node born f Old [] n.home

  event_right : (n : NodeState) (d : Disk) (event : NodeEvent) → Starts n d event → On Right (do_event d event (begin_work n d))
  unfolding do_event
  event_right n d Begin i = txs_more node born f Old [] (reply.Begun (name_of n.home.txs (n.home.txs.last + 1)) ∷ []) (begin n.home.txs) (begins node born f Old [] n.home.txs i)
  event_right n d (Read t p) i = access_right node born f Old _ (begin_work n d) i.0 i.1
  event_right n d (Write t p place bytes) i = access_right node born f Old _ (begin_work n d) i.0 i.1
  event_right n d (Commit t) i = end_right node born f Old (reply.Committed t) t (begin_work n d) (commit t (work_of_home (begin_work n d))) (committed_kept node born f Old [] t (work_of_home (begin_work n d)) i)
  event_right n d (Abort t) i = end_right node born f Old (reply.Aborted t) t (begin_work n d) (abort t (work_of_home (begin_work n d))) (aborted_kept node born f Old [] t (work_of_home (begin_work n d)) i)
  event_right n d (Deliver from m) i = message_right d from m (begin_work n d) i
  event_right n d (Evict p) i = txs_more node born f Old [] (reply.Evicted ∷ []) (write_back p (work_of_home (begin_work n d))).home.txs (back_kept node born f Old [] p (work_of_home (begin_work n d)) i)
  event_right n d (Flush p) i = txs_more node born f Old [] (reply.Flushed ∷ []) (write_back p (work_of_home (begin_work n d))).home.txs (back_kept node born f Old [] p (work_of_home (begin_work n d)) i)
  event_right n d (Install v) i = install_right d v (begin_work n d) i
  event_right n d Cut i = cut_right d (begin_work n d) i

  -- a step that isn't refused
  abbrev pub PlanRight : Plan → Type 0
  PlanRight p = Kept node born f Old p.replies p.node.home

  step_right : (n : NodeState) (event : NodeEvent) (d : Disk) → refusal n event ≡ None → Starts n d event → On PlanRight (nodestep n event d)
  unfolding nodestep
  step_right n event d none i =
      on_so Right PlanRight (unless_refused (refusal n event) d event (begin_work n d)) plan_of
      (subst (λ (o : Option Reason). On Right (unless_refused o d event (begin_work n d))) (sym none) (event_right n d event i)) (λ w i. i)

  pub steps_right : (n : NodeState) (event : NodeEvent) (d : Disk) (p : Plan) → refusal n event ≡ None → Starts n d event → nodestep n event d ≡ Goes p → PlanRight p
  steps_right n event d p none i e = subst (On PlanRight) e (step_right n event d none i)
