-- No page differs in a step on a report, from a cluster of a run.
use Rattle.std.proofs.Common.{◌≡◌, refl, sym, ap, ◌∙◌, ℕ, List, Option, Some, None}
use Rattle.pcl_base.specs.declared.event.Event.{Event}
use Rattle.pcl_base.specs.declared.lock.Verdict.{Verdict}
use Rattle.pcl_base.specs.declared.lock.Verdict.TheVariants as verdict
use Rattle.pcl_base.specs.declared.message.Body.TheVariants as body
use Rattle.pcl_base.specs.declared.message.Message.{Message}
use Rattle.pcl_base.specs.declared.message.Report.{Report}
use Rattle.pcl_base.specs.declared.reply.Reason.{Reason}
use Rattle.pcl_base.specs.declared.reply.Reply.TheVariants as reply
use Rattle.node_rules.specs.NodeState.{NodeState, Deliver, number_of}
use Rattle.node_rules.specs.NodeStep.{begin_work, by_verdict, do_event, judge_in, nodestep, partition_of, plan_of, take_message, unless_refused}
use Rattle.node_rules.specs.Refusals.{refusal}
use Rattle.node_rules.specs.Work.{Outcome, Goes, Differs, Work, and_so, reply}
use Rattle.cluster_rules.specs.Clusters.{Cluster}
use Rattle.cluster_laws.specs.Handed.{IsHanded}
use Rattle.page_relation.specs.Work.StepEnds.{start_of}
use Rattle.related_runs.specs.RunLaws.{IsOfRun}
use Rattle.report_relation.proofs.CompletionParts.Differing.{no_report_differs_law as no_taken_one_differs_law}
use Rattle.whole_runs.proofs.ActParts.Messages.{taken_in}
use Rattle.whole_runs.proofs.ActParts.Steps.{party}
use Rattle.cluster_facts.specs.Facts.{HaveFacts}
use Rattle.whole_runs.specs.Report.Reports.{NoReportDiffers}
use Rattle.whole_runs.proofs.ReportParts.Known.{reports_may_be_taken_law}

module _ (blank : List ℕ) (c : Cluster) (is : IsOfRun blank c) (facts : HaveFacts c) (e : Event) (n : ℕ) (s : NodeState) (from : ℕ) (m : Message) (r : Report) (page expected found : ℕ)
    (report : m.body ≡ body.Report r) (h : IsHanded c e n s (Deliver from m)) where
  -- one that is taken
  taken_agrees : judge_in s.view (number_of s) from m.epoch (partition_of s.home.config m.body) ≡ verdict.Taken → do_event c.disk (Deliver from m) (start_of c s) ≡ Differs page expected found → ⊥
  taken_agrees judged =
      no_taken_one_differs_law c e n from s m r blank is.related.pages.page page expected found is.related.cluster
      (λ p low.
      let i = taken_in blank c e n from s m is h judged p low in
      (i, reports_may_be_taken_law blank c is facts e n p from s m r (is.related.pages.page p) i report))
      (party blank c e n from s m is h) report

  -- one by its verdict
  delivered_as : (v : Verdict) → judge_in s.view (number_of s) from m.epoch (partition_of s.home.config m.body) ≡ v
      → do_event c.disk (Deliver from m) (start_of c s) ≡ by_verdict v c.disk from m.body (start_of c s)
  unfolding do_event take_message
  delivered_as v judged = ap (λ (x : Verdict). by_verdict x c.disk from m.body (start_of c s)) judged

  by_its_verdict : do_event c.disk (Deliver from m) (start_of c s) ≡ Differs page expected found → (v : Verdict)
      → judge_in s.view (number_of s) from m.epoch (partition_of s.home.config m.body) ≡ v → ⊥
  by_its_verdict differs verdict.Taken judged = taken_agrees judged differs
  by_its_verdict differs verdict.Held judged =
      let bad : Goes (reply reply.Held (start_of c s)) ≡ Differs page expected found = sym (delivered_as verdict.Held judged) ∙ differs in absurd (cc)
  by_its_verdict differs verdict.Dropped judged =
      let bad : Goes (reply reply.Dropped (start_of c s)) ≡ Differs page expected found = sym (delivered_as verdict.Dropped judged) ∙ differs in absurd (cc)

  event_agrees : do_event c.disk (Deliver from m) (start_of c s) ≡ Differs page expected found → ⊥
  event_agrees differs = by_its_verdict differs (judge_in s.view (number_of s) from m.epoch (partition_of s.home.config m.body)) refl

  pub step_agrees : nodestep s (Deliver from m) c.disk ≡ Differs page expected found → ⊥
  unfolding nodestep
  step_agrees differs = by (refusal s (Deliver from m)) refl differs
    where
      gone : (o : Outcome Work) → do_event c.disk (Deliver from m) (begin_work s c.disk) ≡ o → and_so o plan_of ≡ Differs page expected found → ⊥
      gone (Goes w) same d = absurd (cc)
      gone (Differs k x y) same d = event_agrees (same ∙ (let one : Differs k x y ≡ Differs page expected found = d in cc))

      by : (o : Option Reason) → refusal s (Deliver from m) ≡ o → and_so (unless_refused o c.disk (Deliver from m) (begin_work s c.disk)) plan_of ≡ Differs page expected found → ⊥
      by (Some x) same d = absurd (cc)
      by None same d = gone (do_event c.disk (Deliver from m) (begin_work s c.disk)) refl d

pub no_report_differs_law : NoReportDiffers
no_report_differs_law blank c is facts e n s from m r page expected found report h differs = step_agrees blank c is facts e n s from m r page expected found report h differs
