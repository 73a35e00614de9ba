-- What steps that a node makes whole leave of all pages.
use Rattle.std.specs.Prelude.{◌≡◌, ℕ, ◌<◌, List, None}
use Rattle.pcl_base.specs.declared.event.Event.{Event}
use Rattle.pcl_base.specs.declared.lock.Verdict.TheVariants as verdict
use Rattle.pcl_base.specs.declared.message.Body.TheVariants as body
use Rattle.pcl_base.specs.declared.message.Message.{Message}
use Rattle.pcl_base.specs.declared.message.Report.{Report}
use Rattle.run_rules.specs.Views.{View}
use Rattle.node_rules.specs.NodeState.{NodeState, NodeEvent, Deliver, Install, number_of}
use Rattle.node_rules.specs.NodeStep.{partition_of, judge_in, plan_of, begin_work, do_event}
use Rattle.node_rules.specs.Refusals.{refusal}
use Rattle.node_rules.specs.Work.{Work, Goes}
use Rattle.cluster_rules.specs.Clusters.{Cluster, stop_at}
use Rattle.cluster_rules.specs.ClusterStep.{left_of, made, step}
use Rattle.cluster_laws.specs.Handed.{IsHanded}
use Rattle.page_protocol.specs.State.{Page}
use Rattle.page_protocol.specs.Steps.{Reached}
use Rattle.page_relation.specs.Relation.{IsPageOf}
use Rattle.page_relation.specs.Work.Events.{IsEntered}
use Rattle.page_relation.specs.Work.StepEnds.{Follows}
use Rattle.related_runs.specs.RunLaws.{HaveWritten, IsOfRun, LeavesPages}
use Rattle.whole_runs.specs.Act.Acted.{IsWholeStep, ActKeeps}

-- What is taken of the events that may redo pages: an install, and a report that is taken.
pub record RedoingKeeps (blank : List ℕ) : Type 0 where
  pub installs : (v : View) → ActKeeps blank (Install v)
  pub reports : (from : ℕ) (m : Message) (r : Report) → m.body ≡ body.Report r
      → (c : Cluster) (e : Event) (n : ℕ) (s : NodeState) (w : Work) (is : IsOfRun blank c) → IsWholeStep c e n s (Deliver from m) w
      → judge_in s.view (number_of s) from m.epoch (partition_of s.home.config m.body) ≡ verdict.Taken
      → (p : ℕ) → p < c.config.pages → Follows p IsEntered (is.related.pages.page p) (step c e)

-- Then each whole step keeps each page, whatever its event.
abbrev pub AllActsKeep : Type 0
AllActsKeep = (blank : List ℕ) (ev : NodeEvent) → RedoingKeeps blank → ActKeeps blank ev

-- What is taken of writes: who holds a page exclusively has written it, after each step.
abbrev pub StepsHaveWritten : List ℕ → Type 0
StepsHaveWritten blank =
    (c : Cluster) (e : Event) (p : ℕ) (a : Page) → IsOfRun blank c → p < c.config.pages → Reached blank a → IsPageOf (step c e) p a → HaveWritten a

-- With both, each whole step leaves the pages of its cluster related.
abbrev pub ActsLeavePages : Type 0
ActsLeavePages =
    (blank : List ℕ) → RedoingKeeps blank → StepsHaveWritten blank → (c : Cluster) (e : Event) (n : ℕ) (s : NodeState) (ev : NodeEvent) (w : Work) → IsOfRun blank c
    → IsHanded c e n s ev → refusal s ev ≡ None → do_event c.disk ev (begin_work s c.disk) ≡ Goes w → left_of n c.disk w.calls (stop_at c n) ≡ None
    → LeavesPages blank (made e n (plan_of w) c)
