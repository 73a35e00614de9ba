-- A report that is taken is answered so first.
use Rattle.std.proofs.Common.{◌≡◌, refl, sym, ap, subst, ◌∙◌, ℕ, not, Bool, true, false, List, [], ◌∷◌, ◌++◌, Option, Some, None, is_some}
use Rattle.pcl_base.specs.declared.lock.Verdict.{Verdict}
use Rattle.pcl_base.specs.declared.lock.Verdict.TheVariants as verdict
use Rattle.pcl_base.specs.declared.message.Body.{Body}
use Rattle.pcl_base.specs.declared.message.Body.TheVariants as body
use Rattle.pcl_base.specs.declared.message.Message.{Message}
use Rattle.pcl_base.specs.declared.message.Report.{Report}
use Rattle.pcl_base.specs.declared.reply.Reason.{Reason}
use Rattle.pcl_base.specs.declared.reply.Reason.TheVariants as reason
use Rattle.pcl_base.specs.declared.reply.Reply.{Reply}
use Rattle.pcl_base.specs.declared.reply.Reply.TheVariants as reply
use Rattle.run_rules.specs.Disk.{Disk}
use Rattle.run_rules.specs.Views.{View}
use Rattle.node_rules.specs.InstallRule.{take_report, on_report_in, on_report}
use Rattle.node_rules.specs.LockTable.{LockTable}
use Rattle.node_rules.specs.NodeState.{NodeState, Deliver, number_of, table_at, put_table}
use Rattle.node_rules.specs.NodeStep.{Plan, plan_of, begin_work, work_off, by_verdict, judge_in, partition_of, take_message, do_event, unless_refused, nodestep}
use Rattle.node_rules.specs.Refusals.{refuse_if, refusal}
use Rattle.node_rules.specs.Reports.{gather}
use Rattle.node_rules.specs.Work.{Work, Goes, with_node, reply}
use Rattle.step_laws.proofs.Outcomes.{On, on_so}
use Rattle.cluster_rules.specs.ClusterStep.{is_taken}
use Rattle.cluster_facts.proofs.ReportsParts.Flags.{verdict_of}
use Rattle.cluster_facts.proofs.ReportsParts.Walking.{Replied, completed_walk}

-- replies of which the first is that a message was taken
abbrev Starts : Work → Type 0
Starts w = (rs : List Reply) × (w.replies ≡ reply.Taken ∷ rs)

starts_more : (w x : Work) → Replied w x → Starts w → Starts x
starts_more w x more is = (is.0 ++ more.0, more.1 ∙ ap (λ (rs : List Reply). rs ++ more.0) is.1)

report_starts : (d : Disk) (from : ℕ) (r : Report) (w : Work) → Starts w → On Starts (on_report d from r w)
unfolding on_report
report_starts d from r w is = by (table_at w.node r.partition)
  where
    took : (x : Bool) (t : LockTable) → On Starts (take_report x d from r t w)
    took true t = is
    took false t =
        completed_walk Starts (λ w x more config number tables seen sends i. starts_more w x more i) (λ q t u w there on i. i) (λ to b w is i. i) d r.partition
        (with_node w (put_table w.node r.partition (Some (gather t from r)))) is

    by : (o : Option LockTable) → On Starts (on_report_in d from r o w)
    by None = is
    by (Some t) = took t.serving t

module _ (n : NodeState) (d : Disk) (from : ℕ) (m : Message) (r : Report) (is : m.body ≡ body.Report r) (taken : verdict_of n from m ≡ verdict.Taken) where
  message_starts : On Starts (take_message d from m (begin_work n d))
  unfolding take_message
  message_starts =
      subst (λ (x : Verdict). On Starts (by_verdict x d from m.body (begin_work n d))) (sym taken)
      (subst (λ (b : Body). On Starts (work_off d from b (reply reply.Taken (begin_work n d)))) (sym is) (report_starts d from r (reply reply.Taken (begin_work n d)) ([], refl)))

  seen : is_some n.view ≡ true
  seen = by n.view taken
    where
      by : (o : Option View) → judge_in o (number_of n) from m.epoch (partition_of n.home.config m.body) ≡ verdict.Taken → is_some o ≡ true
      by None t = absurd (cc)
      by (Some v) t = refl

  unrefused : refusal n (Deliver from m) ≡ None
  unfolding refusal
  unrefused = ap (λ (b : Bool). refuse_if (not b) reason.NotInView None) seen

  step_starts : On (λ (p : Plan). (rs : List Reply) × (p.replies ≡ reply.Taken ∷ rs)) (nodestep n (Deliver from m) d)
  unfolding nodestep do_event
  step_starts =
      on_so Starts (λ (p : Plan). (rs : List Reply) × (p.replies ≡ reply.Taken ∷ rs)) (unless_refused (refusal n (Deliver from m)) d (Deliver from m) (begin_work n d)) plan_of
      (subst (λ (o : Option Reason). On Starts (unless_refused o d (Deliver from m) (begin_work n d))) (sym unrefused) message_starts) (λ w s. s)

  pub report_is_taken : (p : Plan) → nodestep n (Deliver from m) d ≡ Goes p → is_taken p.replies ≡ true
  report_is_taken p goes =
      let first = subst (On (λ (x : Plan). (rs : List Reply) × (x.replies ≡ reply.Taken ∷ rs))) goes step_starts in
      ap is_taken first.1

-- a message that is held isn't taken
pub held_is_kept : (n : NodeState) (d : Disk) (from : ℕ) (m : Message) (p : Plan) → verdict_of n from m ≡ verdict.Held → nodestep n (Deliver from m) d ≡ Goes p → is_taken p.replies ≡ false
unfolding nodestep do_event take_message
held_is_kept n d from m p held goes = subst (On (λ (x : Plan). is_taken x.replies ≡ false)) goes (on_so (λ (w : Work). is_taken w.replies ≡ false) (λ (x : Plan). is_taken x.replies ≡ false) (unless_refused (refusal n (Deliver from m)) d (Deliver from m) (begin_work n d)) plan_of (by (refusal n (Deliver from m))) (λ w i. i))
  where
    by : (o : Option Reason) → On (λ (w : Work). is_taken w.replies ≡ false) (unless_refused o d (Deliver from m) (begin_work n d))
    by (Some r) = refl
    by None = subst (λ (x : Verdict). On (λ (w : Work). is_taken w.replies ≡ false) (by_verdict x d from m.body (begin_work n d))) (sym held) refl
