-- Reports that arrive in a cluster of a run.
use Rattle.std.specs.Prelude.{◌≡◌, ℕ, List}
use Rattle.pcl_base.specs.declared.event.Event.{Event}
use Rattle.pcl_base.specs.declared.message.Body.TheVariants as body
use Rattle.pcl_base.specs.declared.message.Message.{Message}
use Rattle.pcl_base.specs.declared.message.Report.{Report}
use Rattle.node_rules.specs.NodeState.{NodeState, Deliver}
use Rattle.node_rules.specs.NodeStep.{nodestep}
use Rattle.node_rules.specs.Work.{Differs}
use Rattle.cluster_rules.specs.Clusters.{Cluster}
use Rattle.cluster_laws.specs.Handed.{IsHanded}
use Rattle.related_runs.specs.RunLaws.{IsOfRun}
use Rattle.related_runs.specs.Between.Events.{TakesIn}
use Rattle.cluster_facts.specs.Facts.{HaveFacts}

-- A whole step on a report that is taken leads each page to a state that it then has.
abbrev pub ReportsKeep : Type 0
ReportsKeep =
    (blank : List ℕ) (c : Cluster) → IsOfRun blank c → HaveFacts c → (from : ℕ) (m : Message) (r : Report) → m.body ≡ body.Report r → TakesIn blank c from m

-- No page differs in a step on a report, taken or not.
abbrev pub NoReportDiffers : Type 0
NoReportDiffers =
    (blank : List ℕ) (c : Cluster) → IsOfRun blank c → HaveFacts c → (e : Event) (n : ℕ) (s : NodeState) (from : ℕ) (m : Message) (r : Report) (page expected found : ℕ) → m.body ≡ body.Report r
    → IsHanded c e n s (Deliver from m) → nodestep s (Deliver from m) c.disk ≡ Differs page expected found → ⊥
