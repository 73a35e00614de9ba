-- What is left of the steps from a cluster of a run, and what follows from it.
use Rattle.std.specs.Prelude.{◌≡◌, ℕ, List}
use Rattle.pcl_base.specs.declared.event.Event.{Event}
use Rattle.pcl_base.specs.declared.message.Body.TheVariants as body
use Rattle.pcl_base.specs.declared.message.Message.{Message}
use Rattle.pcl_base.specs.declared.message.Report.{Report}
use Rattle.run_rules.specs.Views.{View}
use Rattle.node_rules.specs.NodeState.{NodeState, NodeEvent, Install}
use Rattle.node_rules.specs.NodeStep.{nodestep}
use Rattle.node_rules.specs.Work.{Differs}
use Rattle.cluster_rules.specs.Clusters.{Cluster}
use Rattle.cluster_rules.specs.ClusterStep.{step}
use Rattle.cluster_laws.specs.Handed.{IsHanded}
use Rattle.page_relation.specs.Loss.Writes.{RedoesNothing}
use Rattle.related_runs.specs.RunLaws.{IsOfRun, LeavesPages}
use Rattle.related_runs.specs.Between.Events.{ActsOn, TakesIn}

-- What is left at a cluster: an install, and a report that is taken, made whole.
pub record RedoingKeeps (blank : List ℕ) (c : Cluster) : Type 0 where
  pub installs : (v : View) → ActsOn blank c (Install v)
  pub reports : (from : ℕ) (m : Message) (r : Report) → m.body ≡ body.Report r → TakesIn blank c from m

-- Where these keep the pages of a cluster of a run, each step does.
abbrev pub RedoingIsLeft : Type 0
RedoingIsLeft = (blank : List ℕ) (c : Cluster) (e : Event) → RedoingKeeps blank c → IsOfRun blank c → LeavesPages blank (step c e)

-- No page differs in the step of a node on any other event.
abbrev pub OnlyRedoingDiffers : Type 0
OnlyRedoingDiffers =
    (blank : List ℕ) (c : Cluster) (e : Event) (n : ℕ) (s : NodeState) (ev : NodeEvent) (page expected found : ℕ) → IsOfRun blank c → IsHanded c e n s ev
    → RedoesNothing ev → nodestep s ev c.disk ≡ Differs page expected found → ⊥
