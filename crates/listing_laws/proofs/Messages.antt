-- What a delivered message sends: a list at most, where it is a revocation.
use Rattle.std.proofs.Common.{◌≤◌, ℕ, Bool, true, false, Option, Some, None, arith}
use Rattle.std.specs.Prelude.{⊤}
use Rattle.pcl_base.specs.declared.lock.Verdict.{Verdict}
use Rattle.pcl_base.specs.declared.lock.Verdict.TheVariants as verdict
use Rattle.pcl_base.specs.declared.message.Body.{Body}
use Rattle.pcl_base.specs.declared.message.Body.TheVariants as body
use Rattle.pcl_base.specs.declared.message.Change.{Change}
use Rattle.pcl_base.specs.declared.message.Grant.{Grant}
use Rattle.pcl_base.specs.declared.message.Message.{Message}
use Rattle.pcl_base.specs.declared.message.Release.{Release}
use Rattle.pcl_base.specs.declared.message.Report.{Report}
use Rattle.pcl_base.specs.declared.reply.Reply.{Reply}
use Rattle.pcl_base.specs.declared.reply.Reply.TheVariants as reply
use Rattle.run_rules.specs.Disk.{Disk}
use Rattle.node_rules.specs.LockRule.{ask, returned, takes_change}
use Rattle.node_rules.specs.LockTable.{LockTable, entry_at}
use Rattle.node_rules.specs.NodeState.{NodeState, number_of, table_at, table_of, put_table}
use Rattle.node_rules.specs.Shelf.{Right, right_on}
use Rattle.node_rules.specs.Work.{Work, work_of_home, with_home_work, with_node, some_reply, reply}
use Rattle.node_rules.specs.AccessRule.{Arrived, on_grant, on_revoke, answer_with}
use Rattle.node_rules.specs.OwnerRule.{end_in, change_if_served, put_taken, version_of_change, on_release_in, on_release}
use Rattle.node_rules.specs.Reports.{gather}
use Rattle.node_rules.specs.InstallRule.{take_report, on_report_in, on_report}
use Rattle.node_rules.specs.NodeStep.{begin_work, after_grant, take_grant, take_revoke, work_off, by_verdict, judge_in, partition_of, take_message}
use Rattle.step_laws.proofs.Outcomes.{On, on_so, on_any}
use Rattle.listing_laws.specs.Lists.{one_answer}
use Rattle.listing_laws.proofs.Sends.{Few, entered}
use Rattle.listing_laws.proofs.Installs.{completed}

module _ (k : ℕ) where
  put_few : (b : Bool) (p : ℕ) (c : Option Change) (w : Work) → Few k w → Few k (put_taken b p c w)
  put_few true p (Some c) w h = h
  put_few true p None w h = h
  put_few false p c w h = h

  release_few : (r : Release) (w : Work) → Few k w → On (Few k) (on_release r w)
  unfolding on_release
  release_few r w h = by (table_of w.node r.page)
    where
      by : (o : Option LockTable) → On (Few k) (on_release_in r o w)
      by None = h
      by (Some t) =
          let change : Option Change = change_if_served t.serving r.change in
          let taken : Bool = takes_change (entry_at t r.page) r.tx (version_of_change change) in
          entered k (end_in r.tx change) r.page (put_taken taken r.page r.change w) (put_few taken r.page r.change w h)

  arrived_few : (a : Arrived) (w : Work) → Few k w → Few k (after_grant w a)
  arrived_few a w h = by a.reply
    where
      by : (o : Option Reply) → Few k (some_reply o (with_home_work w a.work))
      by None = h
      by (Some r) = h

  grant_few : (g : Grant) (w : Work) → Few k w → On (Few k) (take_grant (table_of w.node g.page) g w)
  grant_few g w h = by (table_of w.node g.page)
    where
      by : (o : Option LockTable) → On (Few k) (take_grant o g w)
      by None =
          on_so (λ (a : Arrived). ⊤) (Few k) (on_grant g false (work_of_home w)) (after_grant w) (on_any (on_grant g false (work_of_home w)))
          (λ a any. arrived_few a w h)
      by (Some t) = h

  report_few : (d : Disk) (from : ℕ) (r : Report) (w : Work) → Few k w → On (Few k) (on_report d from r w)
  unfolding on_report
  report_few d from r w h = by (table_at w.node r.partition)
    where
      taken : (t : LockTable) (b : Bool) → On (Few k) (take_report b d from r t w)
      taken t true = h
      taken t false = completed k d r.partition (with_node w (put_table w.node r.partition (Some (gather t from r)))) h

      by : (o : Option LockTable) → On (Few k) (on_report_in d from r o w)
      by None = h
      by (Some t) = taken t t.serving

revoke_few : (n : NodeState) (d : Disk) (from p : ℕ) → Few 1 (take_revoke from (reply reply.Taken (begin_work n d)) (on_revoke p n.home))
unfolding on_revoke
revoke_few n d from p = by (right_on n.home.shelf p)
  where
    by : (o : Option Right) → Few 1 (take_revoke from (reply reply.Taken (begin_work n d)) (answer_with p o n.home))
    by None = omega arith
    by (Some r) = omega arith

-- a message that is taken
taken_few : (n : NodeState) (d : Disk) (from : ℕ) (b : Body) → On (Few (one_answer b)) (work_off d from b (reply reply.Taken (begin_work n d)))
taken_few n d from (body.Request r) = entered 0 (λ e. ask e (record { tx = r.tx; mode = r.mode; have = r.have })) r.page (reply reply.Taken (begin_work n d)) (omega arith)
taken_few n d from (body.Grant g) = grant_few 0 g (reply reply.Taken (begin_work n d)) (omega arith)
taken_few n d from (body.Release r) = release_few 0 r (reply reply.Taken (begin_work n d)) (omega arith)
taken_few n d from (body.Revoke p) = revoke_few n d from p
taken_few n d from (body.Return r) = entered 0 (λ e. returned e from r.readers) r.page (reply reply.Taken (begin_work n d)) (omega arith)
taken_few n d from (body.Report r) = report_few 0 d from r (reply reply.Taken (begin_work n d)) (omega arith)

none_few : (b : Body) → 0 ≤ one_answer b
none_few b = omega arith

pub message_few : (n : NodeState) (d : Disk) (from : ℕ) (m : Message) → On (Few (one_answer m.body)) (take_message d from m (begin_work n d))
unfolding take_message
message_few n d from m = by (judge_in n.view (number_of n) from m.epoch (partition_of n.home.config m.body))
  where
    by : (v : Verdict) → On (Few (one_answer m.body)) (by_verdict v d from m.body (begin_work n d))
    by verdict.Taken = taken_few n d from m.body
    by verdict.Held = none_few m.body
    by verdict.Dropped = none_few m.body
