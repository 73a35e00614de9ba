-- Accesses that wait, and replies, within a step: partitions, messages, and the whole step.
use Rattle.std.proofs.Common.{◌≡◌, refl, ap, sym, subst, ◌∙◌, ℕ, ◌==◌, nat_lt, Bool, true, false, List, [], ◌∷◌, length, Option, Some, None}
use Rattle.std.specs.Prelude.{⊤}
use Rattle.pcl_base.specs.declared.lock.Verdict.{Verdict}
use Rattle.pcl_base.specs.declared.lock.Verdict.TheVariants as verdict
use Rattle.pcl_base.specs.declared.lock.Kind.TheVariants as kind
use Rattle.pcl_base.specs.declared.log.Record.{Record}
use Rattle.pcl_base.specs.declared.message.Body.{Body}
use Rattle.pcl_base.specs.declared.message.Body.TheVariants as body
use Rattle.pcl_base.specs.declared.message.Grant.{Grant}
use Rattle.pcl_base.specs.declared.message.Message.{Message}
use Rattle.pcl_base.specs.declared.message.Report.{Report}
use Rattle.pcl_base.specs.declared.message.ReturnRight.{ReturnRight}
use Rattle.pcl_base.specs.declared.reply.Reason.{Reason}
use Rattle.pcl_base.specs.declared.reply.Reply.{Reply}
use Rattle.pcl_base.specs.declared.reply.Reply.TheVariants as reply
use Rattle.run_rules.specs.Disk.{Disk, log_at}
use Rattle.run_rules.specs.Views.{View, born_of, owner_of, since_of, count_from}
use Rattle.run_rules.specs.Redo.{redone, greatest, records_in, all_records}
use Rattle.text_rules.specs.LogRecord.{whole_len}
use Rattle.text_rules.specs.StoredPage.{PageAt}
use Rattle.node_rules.specs.LockRule.{returned}
use Rattle.node_rules.specs.LockTable.{LockTable, pages_of}
use Rattle.node_rules.specs.NodeState.{NodeState, NodeEvent, Begin, Read, Write, Commit, Abort, Deliver, Evict, Flush, Install, Cut, number_of, table_at, table_of}
use Rattle.node_rules.specs.Work.{Work, Goes, and_so, for_each, work_of_home, with_home, with_home_work, with_node, some_reply, reply, read_page}
use Rattle.node_rules.specs.AccessRule.{Arrived, Answered, on_grant, on_revoke}
use Rattle.node_rules.specs.EndRule.{commit, abort}
use Rattle.node_rules.specs.OwnerRule.{settle_page}
use Rattle.node_rules.specs.InstallRule.{redo_to, redo_page, settle_all, serve_table, begin_serving, complete_if, is_complete, complete, get_partition, redo_if, redo_lost, version_of_page, lost_nodes, purged, purge_work, keep_served, keep_in, owned_before, left_if, send_report, tell_new_owner, install_by, install_partition, own_log, trim_if, begin_life, in_view, install_view, take_report, on_report_in, on_report}
use Rattle.node_rules.specs.CutRule.{cuttable}
use Rattle.node_rules.specs.Refusals.{refusal}
use Rattle.node_rules.specs.NodeStep.{Plan, begin_work, after_grant, take_grant, send_answer, take_revoke, work_off, by_verdict, judge_in, partition_of, take_message, cut_if, cut_front, cut_log, do_event, unless_refused, plan_of, nodestep}
use Rattle.step_laws.proofs.Outcomes.{On, on_then, on_so, on_each, on_any}
use Rattle.cluster_laws.proofs.Lists.{all_any}
use Rattle.cluster_laws.proofs.AskParts.Waiting.{Asks, WorkAsks, Replies, begins, kinds_asked, revoked_asks, aborted_asks, committed_asks, back_asks, arrived_asks, newer_asks}
use Rattle.cluster_laws.proofs.AskParts.Owned.{NoRefusals, replied, IsRight, settle_right, enter_right, access_right, release_right, end_right}

module _ (said : ℕ → Option (ℕ × List ℕ)) where
  -- partitions
  redone_right : (rs : List Record) (q p : ℕ) (w : Work) → IsRight said w → On (IsRight said) (redo_page rs q p w)
  unfolding redo_page
  redone_right rs q p w i =
      on_so (λ (x : PageAt). ⊤) (IsRight said) (read_page w.pages p) (λ old. redo_to q p old (redone rs p old) w) (on_any (read_page w.pages p))
      (λ old any. (newer_asks said (nat_lt old.version (redone rs p old).version) p (redone rs p old) (work_of_home w) i.0, i.1))

  settled_right : (q : ℕ) (w : Work) → IsRight said w → On (IsRight said) (settle_all q w)
  settled_right q w i =
      on_each (IsRight said) (λ (p : ℕ). ⊤) settle_page (λ p w any i. settle_right said p w i) (pages_of w.node.home.config q) (all_any (pages_of w.node.home.config q)) w i

  serving_right : (q : ℕ) (w : Work) → IsRight said w → On (IsRight said) (begin_serving q w)
  serving_right q w i = settled_right q (reply (reply.Serving q) (with_node w (serve_table q (table_at w.node q) w.node))) (by (table_at w.node q))
    where
      by : (o : Option LockTable) → IsRight said (reply (reply.Serving q) (with_node w (serve_table q o w.node)))
      by None = (i.0, replied w.replies (reply.Serving q) i.1 refl)
      by (Some t) = (i.0, replied w.replies (reply.Serving q) i.1 refl)

  complete_right : (d : Disk) (q : ℕ) (w : Work) → IsRight said w → On (IsRight said) (complete d q w)
  unfolding complete
  complete_right d q w i = by (is_complete w.node.view q (table_at w.node q))
    where
      by : (b : Bool) → On (IsRight said) (complete_if b d q w)
      by false = i
      by true =
          on_then (IsRight said) (IsRight said) (for_each (redo_page (all_records w.node.home.config d) q) (pages_of w.node.home.config q) w) (begin_serving q)
          (on_each (IsRight said) (λ (p : ℕ). ⊤) (redo_page (all_records w.node.home.config d) q) (λ p x any j. redone_right (all_records w.node.home.config d) q p x j)
          (pages_of w.node.home.config q) (all_any (pages_of w.node.home.config q)) w i)
          (λ x j. serving_right q x j)

  get_right : (d : Disk) (q : ℕ) (w : Work) → IsRight said w → On (IsRight said) (get_partition d q w)
  unfolding get_partition
  get_right d q w i = complete_right d q _ (kinds_asked said q kind.Own w.node.home i.0, i.1)

  lost_right : (lost rs : List Record) (q p : ℕ) (w : Work) → IsRight said w → On (IsRight said) (redo_lost lost rs q p w)
  lost_right lost rs q p w i = by (nat_lt (version_of_page (table_at w.node q) p) (greatest lost p))
    where
      by : (b : Bool) → On (IsRight said) (redo_if b rs q p w)
      by false = i
      by true = redone_right rs q p w i

  purged_right : (q : ℕ) (view : View) (w : Work) → IsRight said w → IsRight said (purge_work q view w)
  purged_right q view w i = by (table_at w.node q)
    where
      by : (o : Option LockTable) → IsRight said (with_node w (purged q view.live o w.node))
      by None = i
      by (Some t) = i

  keep_right : (o : Option LockTable) (d : Disk) (before : Option View) (view : View) (q : ℕ) (w : Work) → IsRight said w → On (IsRight said) (keep_in o d before view q w)
  keep_right None d before view q w i = i
  keep_right (Some t) d before view q w i = by t.serving
    where
      by : (b : Bool) → On (IsRight said) (keep_served b d before view q w)
      by true =
          on_then (IsRight said) (IsRight said)
          (for_each (redo_lost (records_in w.node.home.config d (lost_nodes before view)) (all_records w.node.home.config d) q) (pages_of w.node.home.config q) w)
          (λ x. settle_all q (purge_work q view x))
          (on_each (IsRight said) (λ (p : ℕ). ⊤) (redo_lost (records_in w.node.home.config d (lost_nodes before view)) (all_records w.node.home.config d) q)
          (λ p x any j. lost_right (records_in w.node.home.config d (lost_nodes before view)) (all_records w.node.home.config d) q p x j)
          (pages_of w.node.home.config q) (all_any (pages_of w.node.home.config q)) w i)
          (λ x j. settled_right q (purge_work q view x) (purged_right q view x j))
      by false = complete_right d q (purge_work q view w) (purged_right q view w i)

  left_right : (before : Option View) (view : View) (q : ℕ) (w : Work) → IsRight said w → IsRight said (tell_new_owner before view q w)
  left_right before view q w i = by (owned_before before q (number_of w.node))
    where
      by : (b : Bool) → IsRight said (send_report q (owner_of view q) (with_node w (left_if b q w.node)))
      by true = (kinds_asked said q kind.Registered w.node.home i.0, i.1)
      by false = i

  partition_right : (d : Disk) (before : Option View) (view : View) (q : ℕ) (w : Work) → IsRight said w → On (IsRight said) (install_partition d before view q w)
  unfolding install_partition
  partition_right d before view q w i = by (owner_of view q == number_of w.node) (since_of view q == view.epoch)
    where
      by : (a b : Bool) → On (IsRight said) (install_by a b d before view q w)
      by true true = get_right d q w i
      by true false = keep_right (table_at w.node q) d before view q w i
      by false true = left_right before view q w i
      by false false = i

  trimmed_right : (b : Bool) (keep : ℕ) (w : Work) → IsRight said w → IsRight said (trim_if b keep w)
  trimmed_right true keep w i = i
  trimmed_right false keep w i = i

  life_right : (b : Bool) (d : Disk) (view : View) (w : Work) → IsRight said w → IsRight said (begin_life b d view w)
  life_right true d view w i =
      trimmed_right (nat_lt (whole_len w.node.home.config (own_log d w)) (length (own_log d w))) (whole_len w.node.home.config (own_log d w)) (with_node w _) i
  life_right false d view w i = i

  report_right : (d : Disk) (from : ℕ) (r : Report) (w : Work) → IsRight said w → On (IsRight said) (on_report d from r w)
  unfolding on_report
  report_right d from r w i = by (table_at w.node r.partition)
    where
      taken : (b : Bool) (t : LockTable) → On (IsRight said) (take_report b d from r t w)
      taken true t = i
      taken false t = complete_right d r.partition _ i

      by : (o : Option LockTable) → On (IsRight said) (on_report_in d from r o w)
      by None = i
      by (Some t) = taken t.serving t

  -- messages
  after_right : (a : Arrived) (w : Work) → WorkAsks said a.work → Replies said a.reply → NoRefusals w.replies → IsRight said (after_grant w a)
  after_right a w asks says none = by a.reply says
    where
      by : (o : Option Reply) → Replies said o → IsRight said (some_reply o (with_home_work w a.work))
      by None s = (asks, none)
      by (Some r) s = (asks, replied w.replies r none s)

  take_grant_right : (o : Option LockTable) (g : Grant) (w : Work) → IsRight said w → On (IsRight said) (take_grant o g w)
  take_grant_right None g w i =
      on_so (λ (a : Arrived). WorkAsks said a.work × Replies said a.reply) (IsRight said) (on_grant g false (work_of_home w)) (after_grant w) (arrived_asks said g false (work_of_home w) i.0)
      (λ a b. after_right a w b.0 b.1 i.1)
  take_grant_right (Some t) g w i = i

  take_revoke_right : (from : ℕ) (a : Answered) (w : Work) → Asks said a.home → NoRefusals w.replies → IsRight said (take_revoke from w a)
  take_revoke_right from a w asks none = by a.answer
    where
      by : (o : Option ReturnRight) → IsRight said (send_answer from o (with_home w a.home))
      by None = (asks, none)
      by (Some r) = (asks, none)

  work_off_right : (d : Disk) (from : ℕ) (b : Body) (w : Work) → IsRight said w → On (IsRight said) (work_off d from b w)
  work_off_right d from (body.Request r) w i = enter_right said _ r.page w i
  work_off_right d from (body.Grant g) w i = take_grant_right (table_of w.node g.page) g w i
  work_off_right d from (body.Release r) w i = release_right said r w i
  work_off_right d from (body.Revoke p) w i = take_revoke_right from (on_revoke p w.node.home) w (revoked_asks said p w.node.home i.0) i.1
  work_off_right d from (body.Return r) w i = enter_right said (λ x. returned x from r.readers) r.page w i
  work_off_right d from (body.Report r) w i = report_right d from r w i

  message_right : (d : Disk) (from : ℕ) (m : Message) (w : Work) → IsRight said w → On (IsRight said) (take_message d from m w)
  unfolding take_message
  message_right d from m w i = by (judge_in w.node.view (number_of w.node) from m.epoch (partition_of w.node.home.config m.body))
    where
      by : (x : Verdict) → On (IsRight said) (by_verdict x d from m.body w)
      by verdict.Taken = work_off_right d from m.body (reply reply.Taken w) (i.0, replied w.replies reply.Taken i.1 refl)
      by verdict.Held = (i.0, replied w.replies reply.Held i.1 refl)
      by verdict.Dropped = (i.0, replied w.replies reply.Dropped i.1 refl)

  cut_right : (d : Disk) (w : Work) → IsRight said w → On (IsRight said) (cut_log d w)
  cut_right d w i =
      on_so (λ (x : ℕ). ⊤) (IsRight said) (cuttable w.node.home.config d.pages (log_at d (number_of w.node))) (cut_front w)
      (on_any (cuttable w.node.home.config d.pages (log_at d (number_of w.node)))) (λ x any. by x (x == 0))
    where
      by : (x : ℕ) (b : Bool) → IsRight said (reply (reply.Cut x) (cut_if b x w))
      by x true = (i.0, replied w.replies (reply.Cut x) i.1 refl)
      by x false = (i.0, replied w.replies (reply.Cut x) i.1 refl)

  -- an install
  install_right : (d : Disk) (view : View) (w : Work) → IsRight said w → On (IsRight said) (install_view d view w)
  unfolding install_view
  install_right d view w i =
      let answered : Work = reply (reply.Installed view.epoch) (with_node w (in_view view w.node)) in
      on_each (IsRight said) (λ (q : ℕ). ⊤) (install_partition d w.node.view view) (λ q w' any i. partition_right d w.node.view view q w' i)
      (count_from 0 w.node.home.config.nodes) (all_any (count_from 0 w.node.home.config.nodes))
      (begin_life (born_of view (number_of w.node) == view.epoch) d view answered)
      (life_right (born_of view (number_of w.node) == view.epoch) d view answered (i.0, replied w.replies (reply.Installed view.epoch) i.1 refl))

  -- what an event asks for
  abbrev pub AsksFor : NodeEvent → Type 0
  AsksFor (Read t p) = None ≡ said t.serial
  AsksFor (Write t p place bytes) = Some (place, bytes) ≡ said t.serial
  AsksFor event = ⊤

  event_right : (n : NodeState) (d : Disk) (event : NodeEvent) → AsksFor event → Asks said n.home → On (IsRight said) (do_event d event (begin_work n d))
  unfolding do_event
  event_right n d Begin a i = (begins said n.home.txs i, (refl, tt))
  event_right n d (Read t p) a i = access_right said _ (begin_work n d) a (i, tt)
  event_right n d (Write t p place bytes) a i = access_right said _ (begin_work n d) a (i, tt)
  event_right n d (Commit t) a i = end_right said (reply.Committed t) t (begin_work n d) (commit t (work_of_home (begin_work n d))) refl (committed_asks said t (work_of_home (begin_work n d)) i) tt
  event_right n d (Abort t) a i = end_right said (reply.Aborted t) t (begin_work n d) (abort t (work_of_home (begin_work n d))) refl (aborted_asks said t (work_of_home (begin_work n d)) i) tt
  event_right n d (Deliver from m) a i = message_right d from m (begin_work n d) (i, tt)
  event_right n d (Evict p) a i = (back_asks said p (work_of_home (begin_work n d)) i, (refl, tt))
  event_right n d (Flush p) a i = (back_asks said p (work_of_home (begin_work n d)) i, (refl, tt))
  event_right n d (Install v) a i = install_right d v (begin_work n d) (i, tt)
  event_right n d Cut a i = cut_right d (begin_work n d) (i, tt)

  -- a step that isn't refused
  abbrev pub IsRightPlan : Plan → Type 0
  IsRightPlan p = Asks said p.node.home × NoRefusals p.replies

  step_right : (n : NodeState) (event : NodeEvent) (d : Disk) → refusal n event ≡ None → AsksFor event → Asks said n.home → On IsRightPlan (nodestep n event d)
  unfolding nodestep
  step_right n event d none a i =
      on_so (IsRight said) IsRightPlan (unless_refused (refusal n event) d event (begin_work n d)) plan_of
      (subst (λ (o : Option Reason). On (IsRight said) (unless_refused o d event (begin_work n d))) (sym none) (event_right n d event a i)) (λ w i. i)

  pub steps_right : (n : NodeState) (event : NodeEvent) (d : Disk) (p : Plan) → refusal n event ≡ None → AsksFor event → Asks said n.home → nodestep n event d ≡ Goes p → IsRightPlan p
  steps_right n event d p none a i e = subst (On IsRightPlan) e (step_right n event d none a i)

-- a step that is refused
pub refused_is : (n : NodeState) (event : NodeEvent) (d : Disk) (p : Plan) (r : Reason) → refusal n event ≡ Some r → nodestep n event d ≡ Goes p → (p.node ≡ n) × (p.replies ≡ reply.Refused r ∷ [])
unfolding nodestep
refused_is n event d p r refused e =
    let goes : Goes (plan_of (reply (reply.Refused r) (begin_work n d))) ≡ Goes p =
    ap (λ (o : Option Reason). and_so (unless_refused o d event (begin_work n d)) plan_of) (sym refused) ∙ e in
    let same : plan_of (reply (reply.Refused r) (begin_work n d)) ≡ p = cc in
    (ap (λ (x : Plan). x.node) (sym same), ap (λ (x : Plan). x.replies) (sym same))
