-- The changing calls of each event's rule are those that the part which carries it out names.
use Rattle.std.proofs.Common.{◌≡◌, refl, ap, subst, ◌∙◌, ℕ, ◌==◌, ◌++◌, Bool, true, false, List, [], ◌∷◌, length, Option, Some, None}
use Rattle.pcl_base.specs.declared.lock.Verdict.{Verdict}
use Rattle.pcl_base.specs.declared.lock.Verdict.TheVariants as verdict
use Rattle.pcl_base.specs.declared.message.Body.{Body}
use Rattle.pcl_base.specs.declared.message.Body.TheVariants as body
use Rattle.pcl_base.specs.declared.message.Grant.{Grant}
use Rattle.pcl_base.specs.declared.message.Message.{Message}
use Rattle.pcl_base.specs.declared.message.Release.{Release}
use Rattle.pcl_base.specs.declared.message.ReturnRight.{ReturnRight}
use Rattle.pcl_base.specs.declared.reply.Reply.{Reply}
use Rattle.pcl_base.specs.declared.reply.Reply.TheVariants as reply
use Rattle.pcl_base.specs.declared.tx.TxId.{TxId}
use Rattle.run_rules.specs.Disk.{Disk, log_at}
use Rattle.text_rules.specs.LogRecord.{record_bytes}
use Rattle.node_rules.specs.LockRule.{returned, takes_change}
use Rattle.node_rules.specs.LockTable.{LockTable, entry_at}
use Rattle.node_rules.specs.NodeState.{NodeState, number_of, page_owner, table_of}
use Rattle.node_rules.specs.Work.{HomeWork, Work, Outcome, Goes, Differs, and_so, work_of_home, with_home, with_home_work, reply, some_reply}
use Rattle.node_rules.specs.AccessRule.{Access, Accessed, Arrived, Answered, access, on_grant, on_revoke}
use Rattle.node_rules.specs.CutRule.{cuttable}
use Rattle.node_rules.specs.DiskCalls.{DiskCall, CutLog}
use Rattle.node_rules.specs.EndRule.{abort, commit, commit_record, force_if, pages_written}
use Rattle.node_rules.specs.OwnerRule.{do_access, end_work, end_in, change_if_served, version_of_change, put_taken, on_release_in, on_release}
use Rattle.node_rules.specs.NodeStep.{begin_work, after_grant, take_grant, send_answer, take_revoke, work_off, by_verdict, judge_in, partition_of, take_message, evict_copy, flush_copy, cut_if, cut_front, cut_log}
use Rattle.node_rules.specs.Words.{pick}
use Rattle.home.specs.Commits.{commit_calls}
use Rattle.home.specs.Device.{work_on}
use Rattle.page_owner.specs.Released.{is_report, body_calls, calls_by, message_calls, put_calls, release_calls}
use Rattle.page_owner.proofs.Frames.{write_back_frames}
use Rattle.page_owner.proofs.Releasing.{put_taken_work}
use Rattle.own_steps.specs.Calls.{own_calls, evict_calls, flush_calls}
use Rattle.own_steps.proofs.Framed.{access_framed}
use Rattle.cut_step.specs.Cuts.{cut_calls, counted, front_of}
use Rattle.step_laws.proofs.Outcomes.{On, on_so}
use Rattle.node_core.proofs.OwnerCalls.{Same, arrived_same, enter_same, go_on_same, end_same}

-- an access
pub access_calls : (a : Access) (n : NodeState) (d : Disk) → On (Same (own_calls a n)) (do_access a (begin_work n d))
unfolding do_access
access_calls a n d =
    go_on_same (own_calls a n) a.tx a.page (x (begin_work n d)).next (with_home_work (begin_work n d) (x (begin_work n d)).work)
    (ap (λ (k : Accessed). k.work.calls) (access_framed a (page_owner n a.page == number_of n) (work_of_home (begin_work n d))))
  where
    x : Work → Accessed
    x w = access a (page_owner n a.page == number_of n) (work_of_home w)

-- ends
forced : (n : NodeState) (d : Disk) (t : TxId) (bytes : List ℕ) (b : Bool) → (force_if b t bytes (work_of_home (begin_work n d))).calls ≡ (force_if b t bytes (work_on n.home)).calls
forced n d t bytes true = refl
forced n d t bytes false = refl

commit_same_calls : (t : TxId) (n : NodeState) (d : Disk) → (commit t (work_of_home (begin_work n d))).work.calls ≡ commit_calls n.home t
unfolding commit
commit_same_calls t n d = forced n d t (record_bytes (commit_record n.home t)) (length (pages_written n.home t) == 0)

pub committed_calls : (t : TxId) (n : NodeState) (d : Disk)
    → On (Same (commit_calls n.home t)) (end_work (reply.Committed t) t (begin_work n d) (commit t (work_of_home (begin_work n d))))
committed_calls t n d = end_same (commit_calls n.home t) (reply.Committed t) t (begin_work n d) (commit t (work_of_home (begin_work n d))) (commit_same_calls t n d)

abort_same_calls : (t : TxId) (n : NodeState) (d : Disk) → (abort t (work_of_home (begin_work n d))).work.calls ≡ []
unfolding abort
abort_same_calls t n d = refl

pub aborted_calls : (t : TxId) (n : NodeState) (d : Disk) → On (Same []) (end_work (reply.Aborted t) t (begin_work n d) (abort t (work_of_home (begin_work n d))))
aborted_calls t n d = end_same [] (reply.Aborted t) t (begin_work n d) (abort t (work_of_home (begin_work n d))) (abort_same_calls t n d)

-- copies that are written
pub evicted_calls : (p : ℕ) (n : NodeState) (d : Disk) → Same (evict_calls p n.home) (evict_copy p (begin_work n d))
evicted_calls p n d = ap (λ (k : HomeWork). k.calls) (write_back_frames p (work_of_home (begin_work n d)))

pub flushed_calls : (p : ℕ) (n : NodeState) (d : Disk) → Same (flush_calls p n.home) (flush_copy p (begin_work n d))
flushed_calls p n d = ap (λ (k : HomeWork). k.calls) (write_back_frames p (work_of_home (begin_work n d)))

-- a cut
pub cut_off_calls : (n : NodeState) (d : Disk) → On (Same (cut_calls (front_of d n))) (cut_log d (begin_work n d))
cut_off_calls n d = by (cuttable n.home.config d.pages (log_at d (number_of n)))
  where
    of : (b : Bool) (count : ℕ) → (cut_if b count (begin_work n d)).calls ≡ pick b [] (CutLog count ∷ [])
    of true count = refl
    of false count = refl

    by : (o : Outcome ℕ) → On (Same (cut_calls (counted o))) (and_so o (cut_front (begin_work n d)))
    by (Goes count) = of (count == 0) count
    by (Differs p expected found) = tt

-- messages that are taken
module _ (n : NodeState) (w : Work) (node : w.node ≡ n) (none : w.calls ≡ []) where
  grant_calls : (o : Option LockTable) (g : Grant) → On (Same []) (take_grant o g w)
  grant_calls None g =
      on_so (λ (a : Arrived). a.work.calls ≡ []) (Same []) (on_grant g false (work_of_home w)) (after_grant w) (arrived_same [] g false (work_of_home w) none)
      (λ a i. of a.reply a.work i)
    where
      of : (r : Option Reply) (k : HomeWork) → k.calls ≡ [] → Same [] (some_reply r (with_home_work w k))
      of None k i = i
      of (Some r) k i = i
  grant_calls (Some t) g = none

  revoke_calls : (from : ℕ) (a : Answered) → Same [] (take_revoke from w a)
  revoke_calls from a = of a.answer
    where
      of : (o : Option ReturnRight) → Same [] (send_answer from o (with_home w a.home))
      of None = none
      of (Some r) = none

  released_calls : (r : Release) → On (Same (release_calls r (table_of n r.page) n.home)) (on_release r w)
  unfolding on_release
  released_calls r =
      subst (λ (z : NodeState). On (Same (release_calls r (table_of z r.page) z.home)) (on_release_in r (table_of w.node r.page) w)) node (by (table_of w.node r.page))
    where
      by : (o : Option LockTable) → On (Same (release_calls r o w.node.home)) (on_release_in r o w)
      by None = none
      by (Some t) =
          let taken : Bool = takes_change (entry_at t r.page) r.tx (version_of_change (change_if_served t.serving r.change)) in
          enter_same (put_calls taken r.page r.change w.node.home) (end_in r.tx (change_if_served t.serving r.change)) r.page (put_taken taken r.page r.change w)
          (ap (λ (k : Work). k.calls) (put_taken_work taken r.page r.change w) ∙ ap (λ (l : List DiskCall). l ++ put_calls taken r.page r.change w.node.home) none)

  off_calls : (d : Disk) (from : ℕ) (b : Body) → is_report b ≡ false → On (Same (body_calls b n)) (work_off d from b w)
  off_calls d from (body.Request r) other = enter_same [] _ r.page w none
  off_calls d from (body.Grant g) other = grant_calls (table_of w.node g.page) g
  off_calls d from (body.Release r) other = released_calls r
  off_calls d from (body.Revoke p) other = revoke_calls from (on_revoke p w.node.home)
  off_calls d from (body.Return r) other = enter_same [] (λ x. returned x from r.readers) r.page w none
  off_calls d from (body.Report r) other = absurd (cc)

-- a message that is delivered, but a report
pub delivered_calls : (n : NodeState) (d : Disk) (from : ℕ) (m : Message) → is_report m.body ≡ false → On (Same (message_calls from m n)) (take_message d from m (begin_work n d))
unfolding take_message
delivered_calls n d from m other = by (judge_in n.view (number_of n) from m.epoch (partition_of n.home.config m.body))
  where
    by : (v : Verdict) → On (Same (calls_by v m.body n)) (by_verdict v d from m.body (begin_work n d))
    by verdict.Taken = off_calls n (reply reply.Taken (begin_work n d)) refl refl d from m.body other
    by verdict.Held = refl
    by verdict.Dropped = refl
