-- Granted writes within a step: partitions, messages, and the whole step.
use Rattle.std.proofs.Common.{◌≡◌, refl, sym, subst, ℕ, ◌==◌, nat_lt, Bool, true, false, List, [], ◌∷◌, length, Option, Some, None}
use Rattle.std.specs.Prelude.{IfSome, ⊤}
use Rattle.pcl_base.specs.declared.lock.Verdict.{Verdict}
use Rattle.pcl_base.specs.declared.lock.Verdict.TheVariants as verdict
use Rattle.pcl_base.specs.declared.lock.Kind.TheVariants as kind
use Rattle.pcl_base.specs.declared.log.Record.{Record}
use Rattle.pcl_base.specs.declared.message.Body.{Body}
use Rattle.pcl_base.specs.declared.message.Body.TheVariants as body
use Rattle.pcl_base.specs.declared.message.Grant.{Grant}
use Rattle.pcl_base.specs.declared.message.Message.{Message}
use Rattle.pcl_base.specs.declared.message.Report.{Report}
use Rattle.pcl_base.specs.declared.message.ReturnRight.{ReturnRight}
use Rattle.pcl_base.specs.declared.reply.Reason.{Reason}
use Rattle.pcl_base.specs.declared.reply.Reply.{Reply}
use Rattle.pcl_base.specs.declared.reply.Reply.TheVariants as reply
use Rattle.run_rules.specs.Disk.{Disk, log_at}
use Rattle.run_rules.specs.Views.{View, born_of, owner_of, since_of, count_from}
use Rattle.run_rules.specs.Redo.{redone, greatest, records_in, all_records}
use Rattle.text_rules.specs.LogRecord.{whole_len}
use Rattle.text_rules.specs.StoredPage.{PageAt}
use Rattle.node_rules.specs.LockRule.{returned}
use Rattle.node_rules.specs.LockTable.{LockTable, pages_of}
use Rattle.node_rules.specs.NodeState.{HomeState, NodeState, NodeEvent, Begin, Read, Write, Commit, Abort, Deliver, Evict, Flush, Install, Cut, number_of, table_at, table_of}
use Rattle.node_rules.specs.Work.{HomeWork, Work, Goes, for_each, work_of_home, with_home, with_home_work, with_node, some_reply, reply, read_page}
use Rattle.node_rules.specs.AccessRule.{Arrived, Answered, on_grant, on_revoke, answer_with, kinds_on}
use Rattle.node_rules.specs.EndRule.{closed, commit, abort}
use Rattle.node_rules.specs.OpenTxs.{OpenTxs, begin, set_kind, close_tx}
use Rattle.node_rules.specs.Shelf.{Right, right_on, readers_of}
use Rattle.pcl_base.specs.declared.lock.Kind.{Kind}
use Rattle.pcl_base.specs.declared.tx.TxId.{TxId}
use Rattle.node_rules.specs.OwnerRule.{settle_page}
use Rattle.node_rules.specs.InstallRule.{all_kinds, redo_to, redo_page, settle_all, serve_table, begin_serving, complete_if, is_complete, complete, get_partition, redo_if, redo_lost, version_of_page, lost_nodes, purged, purge_work, keep_served, keep_in, owned_before, left_if, send_report, tell_new_owner, install_by, install_partition, own_log, trim_if, begin_life, born_at, in_view, install_view, take_report, on_report_in, on_report}
use Rattle.node_rules.specs.CutRule.{cuttable}
use Rattle.node_rules.specs.Refusals.{refusal}
use Rattle.node_rules.specs.NodeStep.{Plan, begin_work, after_grant, take_grant, send_answer, take_revoke, work_off, by_verdict, judge_in, partition_of, take_message, cut_if, cut_front, cut_log, do_event, unless_refused, plan_of, nodestep}
use Rattle.step_laws.proofs.Outcomes.{On, on_then, on_so, on_each, on_any}
use Rattle.cluster_laws.proofs.Lists.{all_any}
use Rattle.cluster_laws.proofs.AskParts.Events as answers
use Rattle.cluster_laws.proofs.AskParts.Traces.{none_refused}
use Rattle.run_rules.specs.Script.{is_refusal}
use Rattle.std.specs.List.{list_any}
use Rattle.cluster_laws.proofs.AskParts.Waiting.{begins, kinds_asked, revoked_asks, aborted_asks, committed_asks}
use Rattle.account_versions.proofs.AskedParts.Homes.{Known, IsWell, WellTxs, WellHome, WellArrived, IsAsking, arrived_well, written_same, newer_same}
use Rattle.account_versions.proofs.AskedParts.Owned.{AllWell, replied, IsRight, settle_right, enter_right, access_right, release_right, end_right}

module _ (k : Known) where
  -- homes whose transactions keep their names
  named_kinds : (s : OpenTxs) (ts : List TxId) (p : ℕ) (d : Kind) → k.named s.node s.born ≡ true → k.named (kinds_on s ts p d).node (kinds_on s ts p d).born ≡ true
  unfolding kinds_on set_kind
  named_kinds s [] p d i = i
  named_kinds s (t ∷ ts) p d i = named_kinds (set_kind s t p d) ts p d i

  named_revoked : (p : ℕ) (h : HomeState) → k.named h.txs.node h.txs.born ≡ true → k.named (on_revoke p h).home.txs.node (on_revoke p h).home.txs.born ≡ true
  unfolding on_revoke
  named_revoked p h i = by (right_on h.shelf p)
    where
      by : (o : Option Right) → k.named (answer_with p o h).home.txs.node (answer_with p o h).home.txs.born ≡ true
      by None = i
      by (Some r) = named_kinds h.txs (readers_of (right_on h.shelf p)) p kind.Registered i

  revoked_well : (p : ℕ) (h : HomeState) → WellHome k h → WellHome k (on_revoke p h).home
  revoked_well p h i = (named_revoked p h i.0, revoked_asks k.said p h i.1)

  kinds_well : (q : ℕ) (d : Kind) (h : HomeState) → WellHome k h → WellHome k (all_kinds q d h)
  kinds_well q d h i = (i.0, kinds_asked k.said q d h i.1)

  named_aborted : (t : TxId) (w : HomeWork) → k.named w.home.txs.node w.home.txs.born ≡ true → k.named (abort t w).work.home.txs.node (abort t w).work.home.txs.born ≡ true
  unfolding abort closed close_tx
  named_aborted t w i = i

  aborted_well : (t : TxId) (w : HomeWork) → WellHome k w.home → WellHome k (abort t w).work.home
  aborted_well t w i = (named_aborted t w i.0, aborted_asks k.said t w i.1)

  named_committed : (t : TxId) (w : HomeWork) → k.named w.home.txs.node w.home.txs.born ≡ true → k.named (commit t w).work.home.txs.node (commit t w).work.home.txs.born ≡ true
  unfolding commit closed close_tx
  named_committed t w i = i

  committed_well : (t : TxId) (w : HomeWork) → WellHome k w.home → WellHome k (commit t w).work.home
  committed_well t w i = (named_committed t w i.0, committed_asks k.said t w i.1)

  named_begun : (s : OpenTxs) → k.named s.node s.born ≡ true → k.named (begin s).node (begin s).born ≡ true
  unfolding begin
  named_begun s i = i

  begun_well : (s : OpenTxs) → WellTxs k s → WellTxs k (begin s)
  begun_well s i = (named_begun s i.0, begins k.said s i.1)

  -- partitions
  redone_right : (rs : List Record) (q p : ℕ) (w : Work) → IsRight k w → On (IsRight k) (redo_page rs q p w)
  unfolding redo_page
  redone_right rs q p w i =
      on_so (λ (x : PageAt). ⊤) (IsRight k) (read_page w.pages p) (λ old. redo_to q p old (redone rs p old) w) (on_any (read_page w.pages p))
      (λ old any. (newer_same (WellTxs k) (nat_lt old.version (redone rs p old).version) p (redone rs p old) (work_of_home w) i.0, i.1))

  settled_right : (q : ℕ) (w : Work) → IsRight k w → On (IsRight k) (settle_all q w)
  settled_right q w i =
      on_each (IsRight k) (λ (p : ℕ). ⊤) settle_page (λ p w any i. settle_right k p w i) (pages_of w.node.home.config q) (all_any (pages_of w.node.home.config q)) w i

  serving_right : (q : ℕ) (w : Work) → IsRight k w → On (IsRight k) (begin_serving q w)
  serving_right q w i = settled_right q (reply (reply.Serving q) (with_node w (serve_table q (table_at w.node q) w.node))) (by (table_at w.node q))
    where
      by : (o : Option LockTable) → IsRight k (reply (reply.Serving q) (with_node w (serve_table q o w.node)))
      by None = (i.0, replied k w.replies (reply.Serving q) i.1 tt)
      by (Some t) = (i.0, replied k w.replies (reply.Serving q) i.1 tt)

  complete_right : (d : Disk) (q : ℕ) (w : Work) → IsRight k w → On (IsRight k) (complete d q w)
  unfolding complete
  complete_right d q w i = by (is_complete w.node.view q (table_at w.node q))
    where
      by : (b : Bool) → On (IsRight k) (complete_if b d q w)
      by false = i
      by true =
          on_then (IsRight k) (IsRight k) (for_each (redo_page (all_records w.node.home.config d) q) (pages_of w.node.home.config q) w) (begin_serving q)
          (on_each (IsRight k) (λ (p : ℕ). ⊤) (redo_page (all_records w.node.home.config d) q) (λ p x any j. redone_right (all_records w.node.home.config d) q p x j)
          (pages_of w.node.home.config q) (all_any (pages_of w.node.home.config q)) w i)
          (λ x j. serving_right q x j)

  get_right : (d : Disk) (q : ℕ) (w : Work) → IsRight k w → On (IsRight k) (get_partition d q w)
  unfolding get_partition
  get_right d q w i = complete_right d q _ (kinds_well q kind.Own w.node.home i.0, i.1)

  lost_right : (lost rs : List Record) (q p : ℕ) (w : Work) → IsRight k w → On (IsRight k) (redo_lost lost rs q p w)
  lost_right lost rs q p w i = by (nat_lt (version_of_page (table_at w.node q) p) (greatest lost p))
    where
      by : (b : Bool) → On (IsRight k) (redo_if b rs q p w)
      by false = i
      by true = redone_right rs q p w i

  purged_right : (q : ℕ) (view : View) (w : Work) → IsRight k w → IsRight k (purge_work q view w)
  purged_right q view w i = by (table_at w.node q)
    where
      by : (o : Option LockTable) → IsRight k (with_node w (purged q view.live o w.node))
      by None = i
      by (Some t) = i

  keep_right : (o : Option LockTable) (d : Disk) (before : Option View) (view : View) (q : ℕ) (w : Work) → IsRight k w → On (IsRight k) (keep_in o d before view q w)
  keep_right None d before view q w i = i
  keep_right (Some t) d before view q w i = by t.serving
    where
      by : (b : Bool) → On (IsRight k) (keep_served b d before view q w)
      by true =
          on_then (IsRight k) (IsRight k)
          (for_each (redo_lost (records_in w.node.home.config d (lost_nodes before view)) (all_records w.node.home.config d) q) (pages_of w.node.home.config q) w)
          (λ x. settle_all q (purge_work q view x))
          (on_each (IsRight k) (λ (p : ℕ). ⊤) (redo_lost (records_in w.node.home.config d (lost_nodes before view)) (all_records w.node.home.config d) q)
          (λ p x any j. lost_right (records_in w.node.home.config d (lost_nodes before view)) (all_records w.node.home.config d) q p x j)
          (pages_of w.node.home.config q) (all_any (pages_of w.node.home.config q)) w i)
          (λ x j. settled_right q (purge_work q view x) (purged_right q view x j))
      by false = complete_right d q (purge_work q view w) (purged_right q view w i)

  left_right : (before : Option View) (view : View) (q : ℕ) (w : Work) → IsRight k w → IsRight k (tell_new_owner before view q w)
  left_right before view q w i = by (owned_before before q (number_of w.node))
    where
      by : (b : Bool) → IsRight k (send_report q (owner_of view q) (with_node w (left_if b q w.node)))
      by true = (kinds_well q kind.Registered w.node.home i.0, i.1)
      by false = i

  partition_right : (d : Disk) (before : Option View) (view : View) (q : ℕ) (w : Work) → IsRight k w → On (IsRight k) (install_partition d before view q w)
  unfolding install_partition
  partition_right d before view q w i = by (owner_of view q == number_of w.node) (since_of view q == view.epoch)
    where
      by : (a b : Bool) → On (IsRight k) (install_by a b d before view q w)
      by true true = get_right d q w i
      by true false = keep_right (table_at w.node q) d before view q w i
      by false true = left_right before view q w i
      by false false = i

  trimmed_right : (b : Bool) (keep : ℕ) (w : Work) → IsRight k w → IsRight k (trim_if b keep w)
  trimmed_right true keep w i = i
  trimmed_right false keep w i = i

  life_right : (b : Bool) (d : Disk) (view : View) (w : Work) → (b ≡ true → k.named (number_of w.node) view.epoch ≡ true) → IsRight k w → IsRight k (begin_life b d view w)
  life_right true d view w lives i =
      trimmed_right (nat_lt (whole_len w.node.home.config (own_log d w)) (length (own_log d w))) (whole_len w.node.home.config (own_log d w)) (with_node w (born_at view.epoch w.node)) ((lives refl, i.0.1), i.1)
  life_right false d view w lives i = i

  report_right : (d : Disk) (from : ℕ) (r : Report) (w : Work) → IsRight k w → On (IsRight k) (on_report d from r w)
  unfolding on_report
  report_right d from r w i = by (table_at w.node r.partition)
    where
      taken : (b : Bool) (t : LockTable) → On (IsRight k) (take_report b d from r t w)
      taken true t = i
      taken false t = complete_right d r.partition _ i

      by : (o : Option LockTable) → On (IsRight k) (on_report_in d from r o w)
      by None = i
      by (Some t) = taken t.serving t

  -- messages
  after_right : (a : Arrived) (w : Work) → WellHome k a.work.home → IfSome a.reply (IsWell k) → AllWell k w.replies → IsRight k (after_grant w a)
  after_right a w asks says none = by a.reply says
    where
      by : (o : Option Reply) → IfSome o (IsWell k) → IsRight k (some_reply o (with_home_work w a.work))
      by None s = (asks, none)
      by (Some r) s = (asks, replied k w.replies r none s)

  take_grant_right : (o : Option LockTable) (g : Grant) (w : Work) → IsRight k w → On (IsRight k) (take_grant o g w)
  take_grant_right None g w i =
      on_so (WellArrived k) (IsRight k) (on_grant g false (work_of_home w)) (after_grant w) (arrived_well k g false (work_of_home w) i.0)
      (λ a b. after_right a w b.0 b.1 i.1)
  take_grant_right (Some t) g w i = i

  take_revoke_right : (from : ℕ) (a : Answered) (w : Work) → WellHome k a.home → AllWell k w.replies → IsRight k (take_revoke from w a)
  take_revoke_right from a w asks none = by a.answer
    where
      by : (o : Option ReturnRight) → IsRight k (send_answer from o (with_home w a.home))
      by None = (asks, none)
      by (Some r) = (asks, none)

  work_off_right : (d : Disk) (from : ℕ) (b : Body) (w : Work) → IsRight k w → On (IsRight k) (work_off d from b w)
  work_off_right d from (body.Request r) w i = enter_right k _ r.page w i
  work_off_right d from (body.Grant g) w i = take_grant_right (table_of w.node g.page) g w i
  work_off_right d from (body.Release r) w i = release_right k r w i
  work_off_right d from (body.Revoke p) w i = take_revoke_right from (on_revoke p w.node.home) w (revoked_well p w.node.home i.0) i.1
  work_off_right d from (body.Return r) w i = enter_right k (λ x. returned x from r.readers) r.page w i
  work_off_right d from (body.Report r) w i = report_right d from r w i

  message_right : (d : Disk) (from : ℕ) (m : Message) (w : Work) → IsRight k w → On (IsRight k) (take_message d from m w)
  unfolding take_message
  message_right d from m w i = by (judge_in w.node.view (number_of w.node) from m.epoch (partition_of w.node.home.config m.body))
    where
      by : (x : Verdict) → On (IsRight k) (by_verdict x d from m.body w)
      by verdict.Taken = work_off_right d from m.body (reply reply.Taken w) (i.0, replied k w.replies reply.Taken i.1 tt)
      by verdict.Held = (i.0, replied k w.replies reply.Held i.1 tt)
      by verdict.Dropped = (i.0, replied k w.replies reply.Dropped i.1 tt)

  cut_right : (d : Disk) (w : Work) → IsRight k w → On (IsRight k) (cut_log d w)
  cut_right d w i =
      on_so (λ (x : ℕ). ⊤) (IsRight k) (cuttable w.node.home.config d.pages (log_at d (number_of w.node))) (cut_front w)
      (on_any (cuttable w.node.home.config d.pages (log_at d (number_of w.node)))) (λ x any. by x (x == 0))
    where
      by : (x : ℕ) (b : Bool) → IsRight k (reply (reply.Cut x) (cut_if b x w))
      by x true = (i.0, replied k w.replies (reply.Cut x) i.1 tt)
      by x false = (i.0, replied k w.replies (reply.Cut x) i.1 tt)

  -- a life that begins with a view has its names
  abbrev pub Begins : View → NodeState → Type 0
  Begins view n = (born_of view (number_of n) == view.epoch) ≡ true → k.named (number_of n) view.epoch ≡ true

  -- an install
  install_right : (d : Disk) (view : View) (w : Work) → Begins view w.node → IsRight k w → On (IsRight k) (install_view d view w)
  unfolding install_view
  install_right d view w lives i =
      let answered : Work = reply (reply.Installed view.epoch) (with_node w (in_view view w.node)) in
      on_each (IsRight k) (λ (q : ℕ). ⊤) (install_partition d w.node.view view) (λ q w' any i. partition_right d w.node.view view q w' i)
      (count_from 0 w.node.home.config.nodes) (all_any (count_from 0 w.node.home.config.nodes))
      (begin_life (born_of view (number_of w.node) == view.epoch) d view answered)
      (life_right (born_of view (number_of w.node) == view.epoch) d view answered lives (i.0, replied k w.replies (reply.Installed view.epoch) i.1 tt))

  -- what an event asks for, and the life that it begins
  abbrev pub Suits : NodeState → NodeEvent → Type 0
  Suits n (Read t p) = IsAsking k (record { tx = t; page = p; write = None })
  Suits n (Write t p place bytes) = IsAsking k (record { tx = t; page = p; write = Some (place, bytes) })
  Suits n (Install view) = Begins view n
  Suits n event = ⊤

  event_right : (n : NodeState) (d : Disk) (event : NodeEvent) → Suits n event → WellHome k n.home → On (IsRight k) (do_event d event (begin_work n d))
  unfolding do_event
  event_right n d Begin a i = (begun_well n.home.txs i, (tt, tt))
  event_right n d (Read t p) a i = access_right k _ (begin_work n d) a (i, tt)
  event_right n d (Write t p place bytes) a i = access_right k _ (begin_work n d) a (i, tt)
  event_right n d (Commit t) a i = end_right k (reply.Committed t) t (begin_work n d) (commit t (work_of_home (begin_work n d))) tt (committed_well t (work_of_home (begin_work n d)) i) tt
  event_right n d (Abort t) a i = end_right k (reply.Aborted t) t (begin_work n d) (abort t (work_of_home (begin_work n d))) tt (aborted_well t (work_of_home (begin_work n d)) i) tt
  event_right n d (Deliver from m) a i = message_right d from m (begin_work n d) (i, tt)
  event_right n d (Evict p) a i = (written_same (WellTxs k) p (work_of_home (begin_work n d)) i, (tt, tt))
  event_right n d (Flush p) a i = (written_same (WellTxs k) p (work_of_home (begin_work n d)) i, (tt, tt))
  event_right n d (Install v) a i = install_right d v (begin_work n d) a (i, tt)
  event_right n d Cut a i = cut_right d (begin_work n d) (i, tt)

  -- the replies of a step that isn't refused
  abbrev pub IsRightPlan : Plan → Type 0
  IsRightPlan p = AllWell k p.replies

  step_right : (n : NodeState) (event : NodeEvent) (d : Disk) → refusal n event ≡ None → Suits n event → WellHome k n.home → On IsRightPlan (nodestep n event d)
  unfolding nodestep
  step_right n event d none a i =
      on_so (IsRight k) IsRightPlan (unless_refused (refusal n event) d event (begin_work n d)) plan_of
      (subst (λ (o : Option Reason). On (IsRight k) (unless_refused o d event (begin_work n d))) (sym none) (event_right n d event a i)) (λ w j. j.1)

  pub steps_right : (n : NodeState) (event : NodeEvent) (d : Disk) (p : Plan) → refusal n event ≡ None → Suits n event → WellHome k n.home → nodestep n event d ≡ Goes p → AllWell k p.replies
  steps_right n event d p none a i e = subst (On IsRightPlan) e (step_right n event d none a i)

  -- and it refuses nothing
  says : (n : NodeState) (event : NodeEvent) → Suits n event → answers.AsksFor k.said event
  says n (Read t p) a = a.said
  says n (Write t p place bytes) a = a.said
  says n Begin a = tt
  says n (Commit t) a = tt
  says n (Abort t) a = tt
  says n (Deliver from m) a = tt
  says n (Evict p) a = tt
  says n (Flush p) a = tt
  says n (Install view) a = tt
  says n Cut a = tt

  pub never_refused : (n : NodeState) (event : NodeEvent) (d : Disk) (p : Plan) → refusal n event ≡ None → Suits n event → WellHome k n.home → nodestep n event d ≡ Goes p → list_any is_refusal p.replies ≡ false
  never_refused n event d p none a i e = none_refused p.replies (answers.steps_right k.said n event d p none (says n event a) i.1 e).1
