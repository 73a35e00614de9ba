-- The epoch and the view of a node within a step: partitions, messages, and the whole step.
use Rattle.std.proofs.Common.{◌≡◌, refl, subst, ◌⊎◌, inl, inr, ℕ, ◌==◌, not, nat_lt, Bool, true, false, List, length, Option, Some, None}
use Rattle.std.specs.Prelude.{⊤}
use Rattle.pcl_base.specs.declared.lock.Verdict.{Verdict}
use Rattle.pcl_base.specs.declared.lock.Verdict.TheVariants as verdict
use Rattle.pcl_base.specs.declared.log.Record.{Record}
use Rattle.pcl_base.specs.declared.message.Body.{Body}
use Rattle.pcl_base.specs.declared.message.Body.TheVariants as body
use Rattle.pcl_base.specs.declared.message.Grant.{Grant}
use Rattle.pcl_base.specs.declared.message.Message.{Message}
use Rattle.pcl_base.specs.declared.message.Report.{Report}
use Rattle.pcl_base.specs.declared.message.ReturnRight.{ReturnRight}
use Rattle.pcl_base.specs.declared.reply.Reason.{Reason}
use Rattle.pcl_base.specs.declared.reply.Reason.TheVariants as reason
use Rattle.pcl_base.specs.declared.reply.Reply.{Reply}
use Rattle.pcl_base.specs.declared.reply.Reply.TheVariants as reply
use Rattle.run_rules.specs.Disk.{Disk, log_at}
use Rattle.run_rules.specs.Views.{View, born_of, owner_of, since_of, count_from}
use Rattle.run_rules.specs.Redo.{redone, greatest, records_in, all_records}
use Rattle.text_rules.specs.LogRecord.{whole_len}
use Rattle.text_rules.specs.StoredPage.{PageAt}
use Rattle.node_rules.specs.LockRule.{returned}
use Rattle.node_rules.specs.LockTable.{LockTable, pages_of}
use Rattle.node_rules.specs.NodeState.{NodeState, NodeEvent, Begin, Read, Write, Commit, Abort, Deliver, Evict, Flush, Install, Cut, number_of, table_at, table_of}
use Rattle.node_rules.specs.Work.{Work, Outcome, for_each, work_of_home, with_home, with_home_work, with_node, some_reply, reply, read_page}
use Rattle.node_rules.specs.AccessRule.{Arrived, Answered, on_grant, on_revoke}
use Rattle.node_rules.specs.EndRule.{commit, abort}
use Rattle.node_rules.specs.OwnerRule.{settle_page, do_access, end_work}
use Rattle.node_rules.specs.InstallRule.{version_in, redo_to, redo_page, settle_all, serve_table, begin_serving, complete_if, is_complete, complete, get_partition, redo_if, redo_lost, version_of_page, lost_nodes, purged, purge_work, keep_served, keep_in, owned_before, left_if, send_report, tell_new_owner, install_by, install_partition, own_log, trim_if, begin_life, in_view, install_view, take_report, on_report_in, on_report}
use Rattle.node_rules.specs.CutRule.{cuttable}
use Rattle.node_rules.specs.Refusals.{refusal, refuse_if, may_install}
use Rattle.node_rules.specs.NodeStep.{begin_work, after_grant, take_grant, send_answer, take_revoke, work_off, by_verdict, judge_in, partition_of, take_message, cut_if, cut_front, cut_log, do_event, unless_refused, plan_of, nodestep}
use Rattle.step_laws.proofs.Outcomes.{On, on_then, on_so, on_more, on_each, on_any}
use Rattle.cluster_laws.specs.Epochs.{StaysInView, HasInstalled, StepsKeepViews}
use Rattle.cluster_laws.proofs.Lists.{all_any}
use Rattle.cluster_laws.proofs.AtEpoch.{IsAt, settle_at, enter_at, access_at, release_at, end_at}

module _ (e : ℕ) (v : Option View) where
  -- partitions
  redone_at : (rs : List Record) (q p : ℕ) (w : Work) → IsAt e v w → On (IsAt e v) (redo_page rs q p w)
  unfolding redo_page
  redone_at rs q p w i =
      on_so (λ (x : PageAt). ⊤) (IsAt e v) (read_page w.pages p) (λ old. redo_to q p old (redone rs p old) w) (on_any (read_page w.pages p))
      (λ old any. by (table_at w.node q) (redone rs p old).version)
    where
      by : (o : Option LockTable) (x : ℕ) → IsAt e v (with_node w (version_in q p x o w.node))
      by None x = i
      by (Some t) x = i

  settled_at : (q : ℕ) (w : Work) → IsAt e v w → On (IsAt e v) (settle_all q w)
  settled_at q w i =
      on_each (IsAt e v) (λ (p : ℕ). ⊤) settle_page (λ p w any i. settle_at e v p w i) (pages_of w.node.home.config q) (all_any (pages_of w.node.home.config q)) w i

  serving_at : (q : ℕ) (w : Work) → IsAt e v w → On (IsAt e v) (begin_serving q w)
  serving_at q w i = settled_at q (reply (reply.Serving q) (with_node w (serve_table q (table_at w.node q) w.node))) (by (table_at w.node q))
    where
      by : (o : Option LockTable) → IsAt e v (with_node w (serve_table q o w.node))
      by None = i
      by (Some t) = i

  complete_at : (d : Disk) (q : ℕ) (w : Work) → IsAt e v w → On (IsAt e v) (complete d q w)
  unfolding complete
  complete_at d q w i = by (is_complete w.node.view q (table_at w.node q))
    where
      by : (b : Bool) → On (IsAt e v) (complete_if b d q w)
      by false = i
      by true =
          on_then (IsAt e v) (IsAt e v) (for_each (redo_page (all_records w.node.home.config d) q) (pages_of w.node.home.config q) w) (begin_serving q)
          (on_each (IsAt e v) (λ (p : ℕ). ⊤) (redo_page (all_records w.node.home.config d) q) (λ p x any j. redone_at (all_records w.node.home.config d) q p x j)
          (pages_of w.node.home.config q) (all_any (pages_of w.node.home.config q)) w i)
          (λ x j. serving_at q x j)

  get_at : (d : Disk) (q : ℕ) (w : Work) → IsAt e v w → On (IsAt e v) (get_partition d q w)
  unfolding get_partition
  get_at d q w i = complete_at d q _ i

  lost_at : (lost rs : List Record) (q p : ℕ) (w : Work) → IsAt e v w → On (IsAt e v) (redo_lost lost rs q p w)
  lost_at lost rs q p w i = by (nat_lt (version_of_page (table_at w.node q) p) (greatest lost p))
    where
      by : (b : Bool) → On (IsAt e v) (redo_if b rs q p w)
      by false = i
      by true = redone_at rs q p w i

  purged_at : (q : ℕ) (view : View) (w : Work) → IsAt e v w → IsAt e v (purge_work q view w)
  purged_at q view w i = by (table_at w.node q)
    where
      by : (o : Option LockTable) → IsAt e v (with_node w (purged q view.live o w.node))
      by None = i
      by (Some t) = i

  keep_at : (o : Option LockTable) (d : Disk) (before : Option View) (view : View) (q : ℕ) (w : Work) → IsAt e v w → On (IsAt e v) (keep_in o d before view q w)
  keep_at None d before view q w i = i
  keep_at (Some t) d before view q w i = by t.serving
    where
      by : (b : Bool) → On (IsAt e v) (keep_served b d before view q w)
      by true =
          on_then (IsAt e v) (IsAt e v)
          (for_each (redo_lost (records_in w.node.home.config d (lost_nodes before view)) (all_records w.node.home.config d) q) (pages_of w.node.home.config q) w)
          (λ x. settle_all q (purge_work q view x))
          (on_each (IsAt e v) (λ (p : ℕ). ⊤) (redo_lost (records_in w.node.home.config d (lost_nodes before view)) (all_records w.node.home.config d) q)
          (λ p x any j. lost_at (records_in w.node.home.config d (lost_nodes before view)) (all_records w.node.home.config d) q p x j)
          (pages_of w.node.home.config q) (all_any (pages_of w.node.home.config q)) w i)
          (λ x j. settled_at q (purge_work q view x) (purged_at q view x j))
      by false = complete_at d q (purge_work q view w) (purged_at q view w i)

  left_at : (before : Option View) (view : View) (q : ℕ) (w : Work) → IsAt e v w → IsAt e v (tell_new_owner before view q w)
  left_at before view q w i = by (owned_before before q (number_of w.node))
    where
      by : (b : Bool) → IsAt e v (send_report q (owner_of view q) (with_node w (left_if b q w.node)))
      by true = i
      by false = i

  partition_at : (d : Disk) (before : Option View) (view : View) (q : ℕ) (w : Work) → IsAt e v w → On (IsAt e v) (install_partition d before view q w)
  unfolding install_partition
  partition_at d before view q w i = by (owner_of view q == number_of w.node) (since_of view q == view.epoch)
    where
      by : (a b : Bool) → On (IsAt e v) (install_by a b d before view q w)
      by true true = get_at d q w i
      by true false = keep_at (table_at w.node q) d before view q w i
      by false true = left_at before view q w i
      by false false = i

  trimmed_at : (b : Bool) (keep : ℕ) (w : Work) → IsAt e v w → IsAt e v (trim_if b keep w)
  trimmed_at true keep w i = i
  trimmed_at false keep w i = i

  life_at : (b : Bool) (d : Disk) (view : View) (w : Work) → IsAt e v w → IsAt e v (begin_life b d view w)
  life_at true d view w i =
      trimmed_at (nat_lt (whole_len w.node.home.config (own_log d w)) (length (own_log d w))) (whole_len w.node.home.config (own_log d w)) (with_node w _) i
  life_at false d view w i = i

  report_at : (d : Disk) (from : ℕ) (r : Report) (w : Work) → IsAt e v w → On (IsAt e v) (on_report d from r w)
  unfolding on_report
  report_at d from r w i = by (table_at w.node r.partition)
    where
      taken : (b : Bool) (t : LockTable) → On (IsAt e v) (take_report b d from r t w)
      taken true t = i
      taken false t = complete_at d r.partition _ i

      by : (o : Option LockTable) → On (IsAt e v) (on_report_in d from r o w)
      by None = i
      by (Some t) = taken t.serving t

  -- messages
  arrived_at : (a : Arrived) (w : Work) → IsAt e v w → IsAt e v (after_grant w a)
  arrived_at a w i = by a.reply
    where
      by : (o : Option Reply) → IsAt e v (some_reply o (with_home_work w a.work))
      by None = i
      by (Some r) = i

  take_grant_at : (o : Option LockTable) (g : Grant) (w : Work) → IsAt e v w → On (IsAt e v) (take_grant o g w)
  take_grant_at None g w i =
      on_so (λ (a : Arrived). ⊤) (IsAt e v) (on_grant g false (work_of_home w)) (after_grant w) (on_any (on_grant g false (work_of_home w))) (λ a any. arrived_at a w i)
  take_grant_at (Some t) g w i = i

  take_revoke_at : (from : ℕ) (a : Answered) (w : Work) → IsAt e v w → IsAt e v (take_revoke from w a)
  take_revoke_at from a w i = by a.answer
    where
      by : (o : Option ReturnRight) → IsAt e v (send_answer from o (with_home w a.home))
      by None = i
      by (Some r) = i

  work_off_at : (d : Disk) (from : ℕ) (b : Body) (w : Work) → IsAt e v w → On (IsAt e v) (work_off d from b w)
  work_off_at d from (body.Request r) w i = enter_at e v _ r.page w i
  work_off_at d from (body.Grant g) w i = take_grant_at (table_of w.node g.page) g w i
  work_off_at d from (body.Release r) w i = release_at e v r w i
  work_off_at d from (body.Revoke p) w i = take_revoke_at from (on_revoke p w.node.home) w i
  work_off_at d from (body.Return r) w i = enter_at e v (λ x. returned x from r.readers) r.page w i
  work_off_at d from (body.Report r) w i = report_at d from r w i

  message_at : (d : Disk) (from : ℕ) (m : Message) (w : Work) → IsAt e v w → On (IsAt e v) (take_message d from m w)
  unfolding take_message
  message_at d from m w i = by (judge_in w.node.view (number_of w.node) from m.epoch (partition_of w.node.home.config m.body))
    where
      by : (x : Verdict) → On (IsAt e v) (by_verdict x d from m.body w)
      by verdict.Taken = work_off_at d from m.body (reply reply.Taken w) i
      by verdict.Held = i
      by verdict.Dropped = i

  cut_at : (d : Disk) (w : Work) → IsAt e v w → On (IsAt e v) (cut_log d w)
  cut_at d w i =
      on_so (λ (x : ℕ). ⊤) (IsAt e v) (cuttable w.node.home.config d.pages (log_at d (number_of w.node))) (cut_front w)
      (on_any (cuttable w.node.home.config d.pages (log_at d (number_of w.node)))) (λ x any. by x (x == 0))
    where
      by : (x : ℕ) (b : Bool) → IsAt e v (reply (reply.Cut x) (cut_if b x w))
      by x true = i
      by x false = i

-- an install
install_at : (d : Disk) (view : View) (w : Work) → On (IsAt view.epoch (Some view)) (install_view d view w)
unfolding install_view
install_at d view w =
    let answered : Work = reply (reply.Installed view.epoch) (with_node w (in_view view w.node)) in
    on_each (IsAt view.epoch (Some view)) (λ (q : ℕ). ⊤) (install_partition d w.node.view view) (λ q w' any i. partition_at view.epoch (Some view) d w.node.view view q w' i)
    (count_from 0 w.node.home.config.nodes) (all_any (count_from 0 w.node.home.config.nodes))
    (begin_life (born_of view (number_of w.node) == view.epoch) d view answered)
    (life_at view.epoch (Some view) (born_of view (number_of w.node) == view.epoch) d view answered (refl, refl))

-- what is known at the end of a step
abbrev IsEnded : NodeState → NodeEvent → NodeState → Type 0
IsEnded n event m = StaysInView n m ⊎ HasInstalled n event m

was_allowed : (b : Bool) (r : Reason) → refuse_if (not b) r None ≡ None → b ≡ true
was_allowed true r e = refl
was_allowed false r e = absurd (cc)

all_stayed : (n : NodeState) (event : NodeEvent) (o : Outcome Work) → On (IsAt n.epoch n.view) o → On (λ w. IsEnded n event w.node) o
all_stayed n event o h = on_more (IsAt n.epoch n.view) (λ w. IsEnded n event w.node) o (λ w i. inl (record { epoch = i.0; view = i.1 })) h

event_at : (n : NodeState) (d : Disk) (event : NodeEvent) → refusal n event ≡ None → On (λ w. IsEnded n event w.node) (do_event d event (begin_work n d))
unfolding do_event refusal
event_at n d Begin e = inl (record { epoch = refl; view = refl })
event_at n d (Read t p) e = all_stayed n (Read t p) (do_access _ (begin_work n d)) (access_at n.epoch n.view _ (begin_work n d) (refl, refl))
event_at n d (Write t p place bytes) e = all_stayed n (Write t p place bytes) (do_access _ (begin_work n d)) (access_at n.epoch n.view _ (begin_work n d) (refl, refl))
event_at n d (Commit t) e = all_stayed n (Commit t) (end_work _ t (begin_work n d) _) (end_at n.epoch n.view (reply.Committed t) t (begin_work n d) (commit t (work_of_home (begin_work n d))) (refl, refl))
event_at n d (Abort t) e = all_stayed n (Abort t) (end_work _ t (begin_work n d) _) (end_at n.epoch n.view (reply.Aborted t) t (begin_work n d) (abort t (work_of_home (begin_work n d))) (refl, refl))
event_at n d (Deliver from m) e = all_stayed n (Deliver from m) (take_message d from m (begin_work n d)) (message_at n.epoch n.view d from m (begin_work n d) (refl, refl))
event_at n d (Evict p) e = inl (record { epoch = refl; view = refl })
event_at n d (Flush p) e = inl (record { epoch = refl; view = refl })
event_at n d (Install v) e =
    on_more (IsAt v.epoch (Some v)) (λ w. IsEnded n (Install v) w.node) (install_view d v (begin_work n d))
    (λ w i. inr (record { next = v; asked = refl; allowed = was_allowed (may_install n n.view v) reason.NoView e; epoch = i.0; view = i.1 }))
    (install_at d v (begin_work n d))
event_at n d Cut e = all_stayed n Cut (cut_log d (begin_work n d)) (cut_at n.epoch n.view d (begin_work n d) (refl, refl))

step_at : (n : NodeState) (event : NodeEvent) (d : Disk) → On (λ p. IsEnded n event p.node) (nodestep n event d)
unfolding nodestep
step_at n event d =
    on_so (λ w. IsEnded n event w.node) (λ p. IsEnded n event p.node) (unless_refused (refusal n event) d event (begin_work n d)) plan_of (by (refusal n event) refl)
    (λ w i. i)
  where
    by : (o : Option Reason) → refusal n event ≡ o → On (λ w. IsEnded n event w.node) (unless_refused o d event (begin_work n d))
    by (Some r) e = inl (record { epoch = refl; view = refl })
    by None e = event_at n d event e

pub steps_keep_views_law : StepsKeepViews
steps_keep_views_law n event d p e = subst (On (λ p. IsEnded n event p.node)) e (step_at n event d)
