-- What a step sends.
use Rattle.std.proofs.Common.{◌≡◌, refl, ap, sym, subst, ℕ, zero, suc, ◌+◌, ◌==◌, ◌&&◌, nat_lt, Bool, true, false, [], ◌∷◌, length, Option, Some, None, is_some, eqb-true, arith}
use Rattle.std.specs.Prelude.{⊤}
use Rattle.pcl_base.specs.declared.tx.TxId.{TxId}
use Rattle.pcl_base.specs.declared.lock.Verdict.{Verdict}
use Rattle.pcl_base.specs.declared.lock.Verdict.TheVariants as verdict
use Rattle.pcl_base.specs.declared.message.Body.{Body}
use Rattle.pcl_base.specs.declared.message.Body.TheVariants as body
use Rattle.pcl_base.specs.declared.message.Message.{Message}
use Rattle.pcl_base.specs.declared.message.Request.{Request}
use Rattle.pcl_base.specs.declared.reply.Reason.{Reason}
use Rattle.pcl_base.specs.declared.reply.Reply.{Reply}
use Rattle.pcl_base.specs.declared.reply.Reply.TheVariants as reply
use Rattle.run_rules.specs.Disk.{Disk, log_at}
use Rattle.run_rules.specs.Views.{View, owner_of, since_of, born_of, count_from}
use Rattle.text_rules.specs.LogRecord.{whole_len}
use Rattle.node_rules.specs.Words.{pick, same_tx}
use Rattle.node_rules.specs.LockRule.{ask, returned}
use Rattle.node_rules.specs.NodeState.{NodeState, NodeEvent, Begin, Read, Write, Commit, Abort, Deliver, Evict, Flush, Install, Cut, number_of, table_at, table_of, page_owner}
use Rattle.node_rules.specs.OpenTxs.{pending_of}
use Rattle.node_rules.specs.Shelf.{Right, right_on}
use Rattle.node_rules.specs.BufferRule.{find}
use Rattle.node_rules.specs.Work.{HomeWork, Work, Outcome, and_so, for_each, work_of_home, with_home_work, with_node, reply, send}
use Rattle.node_rules.specs.AccessRule.{Access, Accessed, Next, Now, AskOwn, AskOwner, access, access_in, mode_of_write, take_frames, is_held, is_allowed, now_done, perform, under_right, waiting, next_of, on_revoke, answer_with}
use Rattle.node_rules.specs.EndRule.{Ending, Closed, commit, abort}
use Rattle.node_rules.specs.OwnerRule.{on_release, enter, waits_first, go_on, do_access, tell_end, clean_unserved, end_work}
use Rattle.node_rules.specs.Reports.{report}
use Rattle.node_rules.specs.InstallRule.{get_partition, keep_in, tell_new_owner, install_by, install_partition, trim_if, own_log, born_at, begin_life, in_view, install_view, on_report}
use Rattle.node_rules.specs.CutRule.{cuttable}
use Rattle.node_rules.specs.Refusals.{refusal}
use Rattle.node_rules.specs.NodeStep.{Plan, begin_work, take_grant, take_revoke, work_off, by_verdict, judge_in, partition_of, take_message, cut_if, cut_front, cut_log, do_event, unless_refused, plan_of, nodestep}
use Rattle.home_laws.proofs.Tests.{number_same, tx_same}
use Rattle.step_laws.proofs.Outcomes.{On, on_then, on_so, on_more, on_each, on_any}
use Rattle.cluster_laws.proofs.Lists.{all_any}
use Rattle.account_relation.proofs.Walks.{is_decided, cleaned_walk, got_walk, stayed_walk}
use Rattle.account_relation.specs.Step.Sends.{is_asked, AreReports, to_node, SendsAre, locks, request, answer, reports, StepsSend}
use Rattle.account_relation.proofs.StepParts.Locks.{decided_lock, higher, lock_last, report_last, Locks, same_locks, enter_locks, tell_locks, release_locks, report_locks, grant_locks}

-- ---- the events

-- what a work has sent
abbrev Sends : NodeEvent → Work → Type 0
Sends ev w = SendsAre ev w.node w.replies w.sends

as_locks : (ev : NodeEvent) (o : Outcome Work) → On Locks o → On (Sends ev) o
as_locks ev o h = on_more Locks (Sends ev) o (λ w is. locks is) h

-- an access that becomes a request
abbrev IsNext : Access → Next → Type 0
IsNext a (AskOwner r) = r ≡ record { tx = a.tx; page = a.page; mode = mode_of_write a.write; have = r.have }
IsNext a _ = ⊤

next_is : (a : Access) (owned : Bool) (w : HomeWork) → IsNext a (access_in a owned w).next
unfolding access_in
next_is a owned w = by (is_held a w.home) (is_allowed a owned w.home)
  where
    asked : (o : Bool) → IsNext a (next_of a o (find w.home.pool a.page))
    asked true = tt
    asked false = refl

    by : (x y : Bool) → IsNext a (pick {X = Accessed} x (now_done (perform a.tx a.page a.write w))
        (pick y (now_done (perform a.tx a.page None (record w { home = under_right a.tx a.page w.home })))
        (record { next = next_of a owned (find w.home.pool a.page); work = record w { home = waiting a w.home } }))).next
    by true y = tt
    by false true = tt
    by false false = asked owned

module _ (n : NodeState) (d : Disk) where
  -- an access
  next_sends : (ev : NodeEvent) (a : Access) (owned : Bool) (x : Accessed) → is_asked ev a.tx a.page (mode_of_write a.write) ≡ true → IsNext a x.next
      → On (Sends ev) (go_on a.tx a.page x.next (with_home_work (begin_work n d) x.work))
  next_sends ev a owned x asks is = by x.next is
    where
      w : Work
      w = with_home_work (begin_work n d) x.work

      first : (y : Work) → Locks y → (b : Bool) → Locks (pick b (record y { replies = reply.Waits a.tx a.page ∷ y.replies }) y)
      first y h true = h
      first y h false = h

      by : (y : Next) → IsNext a y → On (Sends ev) (go_on a.tx a.page y w)
      by (Now r) is = locks tt
      by (AskOwn z) is =
          as_locks ev (and_so (enter (λ e. ask e z) a.page w) (waits_first a.tx a.page))
          (on_so Locks Locks (enter (λ e. ask e z) a.page w) (waits_first a.tx a.page) (enter_locks (λ e. ask e z) a.page w tt) (λ y h. first y h (is_some (pending_of y.node.home.txs a.tx))))
      by (AskOwner r) is = request a.tx a.page (mode_of_write a.write) r.have asks refl (ap (λ (z : Request). to_node (page_owner w.node a.page) w.node.epoch (body.Request z) ∷ []) is)

  access_sends : (ev : NodeEvent) (a : Access) → is_asked ev a.tx a.page (mode_of_write a.write) ≡ true → On (Sends ev) (do_access a (begin_work n d))
  unfolding do_access access
  access_sends ev a asks =
      let owned : Bool = page_owner n a.page == number_of n in
      next_sends ev a owned (access_in a owned (take_frames a (work_of_home (begin_work n d)))) asks (next_is a owned (take_frames a (work_of_home (begin_work n d))))

  end_sends : (ev : NodeEvent) (r : Reply) (t : TxId) (x : Closed) → On (Sends ev) (end_work r t (begin_work n d) x)
  end_sends ev r t x =
      let w : Work = reply r (clean_unserved x.endings (with_home_work (begin_work n d) x.work)) in
      as_locks ev (for_each (tell_end t) x.endings w)
      (on_each Locks (λ (e : Ending). ⊤) (tell_end t) (λ e y any h. tell_locks t e y h) x.endings (all_any x.endings) w
      (cleaned_walk Locks same_locks x.endings (with_home_work (begin_work n d) x.work) tt))

  -- a message
  revoke_sends : (from epoch p : ℕ) → Sends (Deliver from (record { epoch = epoch; body = body.Revoke p })) (take_revoke from (reply reply.Taken (begin_work n d)) (on_revoke p n.home))
  unfolding on_revoke
  revoke_sends from epoch p = by (right_on n.home.shelf p)
    where
      by : (o : Option Right) → Sends (Deliver from (record { epoch = epoch; body = body.Revoke p })) (take_revoke from (reply reply.Taken (begin_work n d)) (answer_with p o n.home))
      by None = locks tt
      by (Some r) = answer from epoch p r.readers refl refl refl

  taken_sends : (from epoch : ℕ) (b : Body) → On (Sends (Deliver from (record { epoch = epoch; body = b }))) (work_off d from b (reply reply.Taken (begin_work n d)))
  taken_sends from epoch (body.Request r) = as_locks _ (enter (λ e. ask e (record { tx = r.tx; mode = r.mode; have = r.have })) r.page (reply reply.Taken (begin_work n d))) (enter_locks (λ e. ask e (record { tx = r.tx; mode = r.mode; have = r.have })) r.page (reply reply.Taken (begin_work n d)) tt)
  taken_sends from epoch (body.Grant g) = as_locks _ (take_grant (table_of n g.page) g (reply reply.Taken (begin_work n d))) (grant_locks g (reply reply.Taken (begin_work n d)) tt)
  taken_sends from epoch (body.Release r) = as_locks _ (on_release r (reply reply.Taken (begin_work n d))) (release_locks r (reply reply.Taken (begin_work n d)) tt)
  taken_sends from epoch (body.Revoke p) = revoke_sends from epoch p
  taken_sends from epoch (body.Return r) = as_locks _ (enter (λ e. returned e from r.readers) r.page (reply reply.Taken (begin_work n d))) (enter_locks (λ e. returned e from r.readers) r.page (reply reply.Taken (begin_work n d)) tt)
  taken_sends from epoch (body.Report r) = as_locks _ (on_report d from r (reply reply.Taken (begin_work n d))) (report_locks d from r (reply reply.Taken (begin_work n d)) tt)

  message_sends : (from : ℕ) (m : Message) → On (Sends (Deliver from m)) (take_message d from m (begin_work n d))
  unfolding take_message
  message_sends from m = by (judge_in n.view (number_of n) from m.epoch (partition_of n.home.config m.body))
    where
      by : (v : Verdict) → On (Sends (Deliver from m)) (by_verdict v d from m.body (begin_work n d))
      by verdict.Taken = taken_sends from m.epoch m.body
      by verdict.Held = locks tt
      by verdict.Dropped = locks tt

  -- an install
  abbrev Reported : View → ℕ → Work → Type 0
  Reported v k w = AreReports v 0 k w.sends

  told_reports : (before : Option View) (v : View) (q : ℕ) (w : Work) → since_of v q ≡ v.epoch → Reported v q w → Reported v (q + 1) (tell_new_owner before v q w)
  unfolding report
  told_reports before v q w new h = report_last v 0 q _ w.sends _ (omega arith) new h

  partition_reports : (before : Option View) (v : View) (q : ℕ) (w : Work) → Reported v q w → On (Reported v (q + 1)) (install_partition d before v q w)
  unfolding install_partition
  partition_reports before v q w h = by (owner_of v q == number_of w.node) (since_of v q == v.epoch) refl
    where
      more : (x : Work) → Reported v q x → Reported v (q + 1) x
      more x h = higher v 0 q (q + 1) x.sends (omega arith) h

      quiet : (x y : Work) → y.replies ≡ x.replies → y.sends ≡ x.sends → y.node.view ≡ x.node.view → Reported v q x → Reported v q y
      quiet x y replies sends view h = subst (AreReports v 0 q) (sym sends) h

      sent : (to : ℕ) (b : Body) (x : Work) → is_decided b ≡ true → Reported v q x → Reported v q (send to b x)
      sent to b x is h = lock_last v 0 q x.sends (to_node to x.node.epoch b) (decided_lock b is) h

      by : (a b : Bool) → (since_of v q == v.epoch) ≡ b → On (Reported v (q + 1)) (install_by a b d before v q w)
      by true true e = on_more (Reported v q) (Reported v (q + 1)) (get_partition d q w) more (got_walk (Reported v q) quiet (λ r x is h. h) sent d q w h)
      by true false e = on_more (Reported v q) (Reported v (q + 1)) (keep_in (table_at w.node q) d before v q w) more (stayed_walk (Reported v q) quiet (λ r x is h. h) sent (table_at w.node q) d before v q w h)
      by false true e = told_reports before v q w (eqb-true (since_of v q) v.epoch e) h
      by false false e = more w h

  each_reports : (before : Option View) (v : View) (a k : ℕ) (w : Work) → Reported v a w → On (Reported v (a + k)) (for_each (install_partition d before v) (count_from a k) w)
  unfolding for_each count_from
  each_reports before v a zero w h = let same : a ≡ a + 0 = omega arith in subst (λ x. Reported v x w) same h
  each_reports before v a (suc k) w h =
      let same : a + 1 + k ≡ a + suc k = omega arith in
      subst (λ x. On (Reported v x) (for_each (install_partition d before v) (count_from a (suc k)) w)) same
      (on_then (Reported v (a + 1)) (Reported v (a + 1 + k)) (install_partition d before v a w) (for_each (install_partition d before v) (count_from (a + 1) k)) (partition_reports before v a w h)
      (λ x i. each_reports before v (a + 1) k x i))

  begun_reports : (v : View) (b : Bool) (w : Work) → w.sends ≡ [] → (begin_life b d v w).sends ≡ []
  begun_reports v false w none = none
  begun_reports v true w none = by (nat_lt (whole_len x.node.home.config (own_log d x)) (length (own_log d x)))
    where
      x : Work
      x = with_node w (born_at v.epoch w.node)

      by : (y : Bool) → (trim_if y (whole_len x.node.home.config (own_log d x)) x).sends ≡ []
      by true = none
      by false = none

  install_reports : (v : View) → On (Reported v n.home.config.nodes) (install_view d v (begin_work n d))
  unfolding install_view
  install_reports v =
      let x : Work = begin_life (born_of v (number_of n) == v.epoch) d v (reply (reply.Installed v.epoch) (with_node (begin_work n d) (in_view v n))) in
      let same : 0 + n.home.config.nodes ≡ n.home.config.nodes = omega arith in
      subst (λ (k : ℕ). On (Reported v k) (install_view d v (begin_work n d))) same
      (each_reports n.view v 0 n.home.config.nodes x
      (subst (AreReports v 0 0) (sym (begun_reports v (born_of v (number_of n) == v.epoch) (reply (reply.Installed v.epoch) (with_node (begin_work n d) (in_view v n))) refl)) (omega arith)))

  -- a cut
  cut_sends : On (Sends Cut) (cut_log d (begin_work n d))
  cut_sends =
      on_so (λ (x : ℕ). ⊤) (Sends Cut) (cuttable n.home.config d.pages (log_at d (number_of n))) (cut_front (begin_work n d)) (on_any (cuttable n.home.config d.pages (log_at d (number_of n)))) (λ x any. by x (x == 0))
    where
      by : (x : ℕ) (b : Bool) → Sends Cut (reply (reply.Cut x) (cut_if b x (begin_work n d)))
      by x true = locks tt
      by x false = locks tt

  both : (a b : Bool) → a ≡ true → b ≡ true → a && b ≡ true
  both a b x y = cc

  event_sends : (ev : NodeEvent) → On (Sends ev) (do_event d ev (begin_work n d))
  unfolding do_event
  event_sends Begin = locks tt
  event_sends (Read t p) = access_sends (Read t p) (record { tx = t; page = p; write = None }) (both (same_tx t t) (p == p) (tx_same t) (number_same p))
  event_sends (Write t p place bytes) = access_sends (Write t p place bytes) (record { tx = t; page = p; write = Some (place, bytes) }) (both (same_tx t t) (p == p) (tx_same t) (number_same p))
  event_sends (Commit t) = end_sends (Commit t) (reply.Committed t) t (commit t (work_of_home (begin_work n d)))
  event_sends (Abort t) = end_sends (Abort t) (reply.Aborted t) t (abort t (work_of_home (begin_work n d)))
  event_sends (Deliver from m) = message_sends from m
  event_sends (Evict p) = locks tt
  event_sends (Flush p) = locks tt
  event_sends (Install v) = on_more (Reported v n.home.config.nodes) (Sends (Install v)) (install_view d v (begin_work n d)) (λ w is. reports v n.home.config.nodes refl is) (install_reports v)
  event_sends Cut = cut_sends

  step_sends : (ev : NodeEvent) → On (λ (p : Plan). SendsAre ev p.node p.replies p.sends) (nodestep n ev d)
  unfolding nodestep
  step_sends ev = on_so (Sends ev) (λ (p : Plan). SendsAre ev p.node p.replies p.sends) (unless_refused (refusal n ev) d ev (begin_work n d)) plan_of (by (refusal n ev)) (λ w is. is)
    where
      by : (o : Option Reason) → On (Sends ev) (unless_refused o d ev (begin_work n d))
      by (Some r) = locks tt
      by None = event_sends ev

pub steps_send_law : StepsSend
steps_send_law n ev d p goes = subst (On (λ (x : Plan). SendsAre ev x.node x.replies x.sends)) goes (step_sends n d ev)
