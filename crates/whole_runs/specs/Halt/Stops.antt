-- Stops in steps that may redo pages.
use Rattle.std.specs.Prelude.{◌≡◌, ℕ, List, Some}
use Rattle.pcl_base.specs.declared.event.Event.{Event}
use Rattle.pcl_base.specs.declared.message.Body.TheVariants as body
use Rattle.pcl_base.specs.declared.message.Message.{Message}
use Rattle.pcl_base.specs.declared.message.Report.{Report}
use Rattle.run_rules.specs.Views.{View}
use Rattle.node_rules.specs.DiskCalls.{Left}
use Rattle.node_rules.specs.NodeState.{NodeState, NodeEvent, Deliver, Install}
use Rattle.node_rules.specs.NodeStep.{Plan, nodestep}
use Rattle.node_rules.specs.Work.{Goes}
use Rattle.cluster_rules.specs.Clusters.{Cluster, stop_at}
use Rattle.cluster_rules.specs.ClusterStep.{halted, left_of}
use Rattle.cluster_laws.specs.Handed.{IsHanded}
use Rattle.cluster_laws.specs.Link.StepLaws.{IsPlanned}
use Rattle.page_relation.specs.Together.{IsRelated}
use Rattle.page_relation.specs.Loss.Writes.{WriteVersions, ScriptsFit}
use Rattle.related_runs.specs.RunLaws.{IsOfRun, LeavesPages}
use Rattle.related_runs.specs.Between.Events.{StopsIn}

-- A step on a report writes only versions of pages: those that it redoes, where the report was the last that was missing.
abbrev pub ReportsWriteVersions : Type 0
ReportsWriteVersions =
    (blank : List ℕ) (c : Cluster) (e : Event) (n : ℕ) (s : NodeState) (from : ℕ) (m : Message) (x : Report) (plan : Plan) (r : IsRelated blank c) → IsPlanned c e n s (Deliver from m) plan
    → m.body ≡ body.Report x → WriteVersions r.pages.page c.config.pages n plan.calls

-- So does a step on an install: those that it redoes of the partitions that the node gets or keeps.
abbrev pub InstallsWriteVersions : Type 0
InstallsWriteVersions =
    (blank : List ℕ) (c : Cluster) (e : Event) (n : ℕ) (s : NodeState) (v : View) (plan : Plan) (r : IsRelated blank c) → IsPlanned c e n s (Install v) plan
    → WriteVersions r.pages.page c.config.pages n plan.calls

-- So does every step.
abbrev pub AllWriteVersions : Type 0
AllWriteVersions =
    (blank : List ℕ) (c : Cluster) (e : Event) (n : ℕ) (s : NodeState) (ev : NodeEvent) (plan : Plan) (r : IsRelated blank c) → IsPlanned c e n s ev plan
    → WriteVersions r.pages.page c.config.pages n plan.calls

-- A stop in any step keeps a cluster related.
abbrev pub AllHaltsAreRelated : Type 0
AllHaltsAreRelated =
    (blank : List ℕ) (c : Cluster) (e : Event) (n : ℕ) (s : NodeState) (ev : NodeEvent) (plan : Plan) (l : Left) (r : IsRelated blank c) → IsPlanned c e n s ev plan
    → left_of n c.disk plan.calls (stop_at c n) ≡ Some l → ScriptsFit c r.pages.page → IsRelated blank (halted e n l c)

-- So it leaves the pages of a cluster of a run related.
abbrev pub AllStopsAreRelated : Type 0
AllStopsAreRelated = (blank : List ℕ) (c : Cluster) (ev : NodeEvent) → StopsIn blank c ev

-- And as they are between two events.
abbrev pub AllStopsLeavePages : Type 0
AllStopsLeavePages =
    (blank : List ℕ) (c : Cluster) (e : Event) (n : ℕ) (s : NodeState) (ev : NodeEvent) (p : Plan) (l : Left) → IsOfRun blank c → IsHanded c e n s ev → nodestep s ev c.disk ≡ Goes p
    → left_of n c.disk p.calls (stop_at c n) ≡ Some l → LeavesPages blank (halted e n l c)
