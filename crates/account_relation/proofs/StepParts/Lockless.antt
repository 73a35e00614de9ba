-- Events that send no locks.
use Rattle.std.proofs.Common.{◌≡◌, refl, subst, ℕ, ◌==◌, not, Bool, true, false, Option, Some, None}
use Rattle.std.specs.Prelude.{⊤}
use Rattle.std.specs.List.{AllByRecursion}
use Rattle.pcl_base.specs.declared.lock.Verdict.{Verdict}
use Rattle.pcl_base.specs.declared.lock.Verdict.TheVariants as verdict
use Rattle.pcl_base.specs.declared.message.Body.{Body}
use Rattle.pcl_base.specs.declared.message.Body.TheVariants as body
use Rattle.pcl_base.specs.declared.message.Grant.{Grant}
use Rattle.pcl_base.specs.declared.message.Message.{Message}
use Rattle.pcl_base.specs.declared.reply.Reason.{Reason}
use Rattle.pcl_base.specs.declared.reply.Reply.{Reply}
use Rattle.pcl_base.specs.declared.reply.Reply.TheVariants as reply
use Rattle.run_rules.specs.Disk.{Disk, log_at}
use Rattle.node_rules.specs.AccessRule.{Access, Accessed, Next, Now, AskOwn, AskOwner, Arrived, access, access_in, take_frames, is_held, is_allowed, now_done, perform, under_right, waiting, next_of, on_grant, on_revoke, answer_with}
use Rattle.node_rules.specs.BufferRule.{find}
use Rattle.node_rules.specs.CutRule.{cuttable}
use Rattle.node_rules.specs.LockTable.{LockTable}
use Rattle.node_rules.specs.NodeState.{NodeState, NodeEvent, Begin, Read, Write, Commit, Abort, Deliver, Evict, Flush, Install, Cut, Outgoing, number_of, table_of, page_owner}
use Rattle.node_rules.specs.NodeStep.{Plan, begin_work, after_grant, take_grant, take_revoke, work_off, by_verdict, judge_in, partition_of, take_message, cut_if, cut_front, cut_log, do_event, unless_refused, plan_of, nodestep}
use Rattle.node_rules.specs.OwnerRule.{go_on, do_access}
use Rattle.node_rules.specs.Refusals.{refusal}
use Rattle.node_rules.specs.Shelf.{Right, right_on}
use Rattle.node_rules.specs.Words.{pick}
use Rattle.node_rules.specs.Work.{HomeWork, Work, work_of_home, with_home_work, some_reply, reply}
use Rattle.home_laws.proofs.Tests.{not_true}
use Rattle.step_laws.proofs.Outcomes.{On, on_so, on_any}
use Rattle.account_relation.specs.Step.Quiet.{comes_home, is_lockless, LocklessSendNone, LocklessKeepAccounts}
use Rattle.account_relation.specs.Step.Sends.{is_lock}
use Rattle.account_relation.proofs.StepParts.Accounting.{steps_without_locks_law}

-- a work that has sent no locks
abbrev Free : Work → Type 0
Free w = AllByRecursion (λ (o : Outgoing). is_lock o.message.body ≡ false) w.sends

-- an access of a page of another node isn't put into an own entry
abbrev IsForeign : Next → Type 0
IsForeign (Now r) = ⊤
IsForeign (AskOwn a) = ⊥
IsForeign (AskOwner r) = ⊤

next_foreign : (a : Access) (owned : Bool) (w : HomeWork) → owned ≡ false → IsForeign (access_in a owned w).next
unfolding access_in
next_foreign a owned w other = by (is_held a w.home) (is_allowed a owned w.home)
  where
    asked : (o : Bool) → o ≡ false → IsForeign (next_of a o (find w.home.pool a.page))
    asked true e = absurd (cc)
    asked false e = tt

    by : (x y : Bool) → IsForeign (pick {X = Accessed} x (now_done (perform a.tx a.page a.write w))
        (pick y (now_done (perform a.tx a.page None (record w { home = under_right a.tx a.page w.home })))
        (record { next = next_of a owned (find w.home.pool a.page); work = record w { home = waiting a w.home } }))).next
    by true y = tt
    by false true = tt
    by false false = asked owned other

module _ (n : NodeState) (d : Disk) where
  access_free : (a : Access) → not (page_owner n a.page == number_of n) ≡ true → On Free (do_access a (begin_work n d))
  unfolding do_access access
  access_free a other = by x.next (next_foreign a owned (take_frames a (work_of_home (begin_work n d))) (not_true owned other))
    where
      owned : Bool
      owned = page_owner n a.page == number_of n

      x : Accessed
      x = access_in a owned (take_frames a (work_of_home (begin_work n d)))

      by : (y : Next) → IsForeign y → On Free (go_on a.tx a.page y (with_home_work (begin_work n d) x.work))
      by (Now r) is = tt
      by (AskOwn z) is = absurd is
      by (AskOwner r) is = (refl, tt)

  grant_free : (g : Grant) → On Free (take_grant (table_of n g.page) g (reply reply.Taken (begin_work n d)))
  grant_free g = by (table_of n g.page)
    where
      w : Work
      w = reply reply.Taken (begin_work n d)

      arrived : (a : Arrived) (o : Option Reply) → Free (some_reply o (with_home_work w a.work))
      arrived a None = tt
      arrived a (Some r) = tt

      by : (o : Option LockTable) → On Free (take_grant o g w)
      by None = on_so (λ (a : Arrived). ⊤) Free (on_grant g false (work_of_home w)) (after_grant w) (on_any (on_grant g false (work_of_home w))) (λ a any. arrived a a.reply)
      by (Some t) = tt

  revoke_free : (from p : ℕ) → Free (take_revoke from (reply reply.Taken (begin_work n d)) (on_revoke p n.home))
  unfolding on_revoke
  revoke_free from p = by (right_on n.home.shelf p)
    where
      by : (o : Option Right) → Free (take_revoke from (reply reply.Taken (begin_work n d)) (answer_with p o n.home))
      by None = tt
      by (Some r) = (refl, tt)

  taken_free : (from : ℕ) (b : Body) → comes_home b ≡ true → On Free (work_off d from b (reply reply.Taken (begin_work n d)))
  taken_free from (body.Grant g) is = grant_free g
  taken_free from (body.Revoke p) is = revoke_free from p
  taken_free from (body.Request r) is = absurd (cc)
  taken_free from (body.Release r) is = absurd (cc)
  taken_free from (body.Return r) is = absurd (cc)
  taken_free from (body.Report r) is = absurd (cc)

  message_free : (from : ℕ) (m : Message) → comes_home m.body ≡ true → On Free (take_message d from m (begin_work n d))
  unfolding take_message
  message_free from m is = by (judge_in n.view (number_of n) from m.epoch (partition_of n.home.config m.body))
    where
      by : (v : Verdict) → On Free (by_verdict v d from m.body (begin_work n d))
      by verdict.Taken = taken_free from m.body is
      by verdict.Held = tt
      by verdict.Dropped = tt

  cut_free : On Free (cut_log d (begin_work n d))
  cut_free = on_so (λ (x : ℕ). ⊤) Free (cuttable n.home.config d.pages (log_at d (number_of n))) (cut_front (begin_work n d)) (on_any (cuttable n.home.config d.pages (log_at d (number_of n)))) (λ x any. by x (x == 0))
    where
      by : (x : ℕ) (b : Bool) → Free (reply (reply.Cut x) (cut_if b x (begin_work n d)))
      by x true = tt
      by x false = tt

  event_free : (ev : NodeEvent) → is_lockless n ev ≡ true → On Free (do_event d ev (begin_work n d))
  unfolding do_event
  event_free Begin is = tt
  event_free (Read t p) is = access_free (record { tx = t; page = p; write = None }) is
  event_free (Write t p place bytes) is = access_free (record { tx = t; page = p; write = Some (place, bytes) }) is
  event_free (Commit t) is = absurd (cc)
  event_free (Abort t) is = absurd (cc)
  event_free (Deliver from m) is = message_free from m is
  event_free (Evict p) is = tt
  event_free (Flush p) is = tt
  event_free (Install v) is = absurd (cc)
  event_free Cut is = cut_free

  step_free : (ev : NodeEvent) → is_lockless n ev ≡ true → On (λ (p : Plan). AllByRecursion (λ (o : Outgoing). is_lock o.message.body ≡ false) p.sends) (nodestep n ev d)
  unfolding nodestep
  step_free ev is = on_so Free (λ (p : Plan). AllByRecursion (λ (o : Outgoing). is_lock o.message.body ≡ false) p.sends) (unless_refused (refusal n ev) d ev (begin_work n d)) plan_of (by (refusal n ev)) (λ w h. h)
    where
      by : (o : Option Reason) → On Free (unless_refused o d ev (begin_work n d))
      by (Some r) = tt
      by None = event_free ev is

pub lockless_send_none_law : LocklessSendNone
lockless_send_none_law n ev d p is goes = subst (On (λ (x : Plan). AllByRecursion (λ (o : Outgoing). is_lock o.message.body ≡ false) x.sends)) goes (step_free n d ev is)

pub lockless_keep_accounts_law : LocklessKeepAccounts
lockless_keep_accounts_law c e i none quiet has = steps_without_locks_law c e i none (λ n s ev p h goes. lockless_send_none_law s ev c.disk p (quiet n s ev h) goes) has
