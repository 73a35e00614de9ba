-- Tables that are being rebuilt, in a cluster of a run, and the reports that come to them.
use Rattle.std.specs.Prelude.{◌≡◌, ℕ, ◌<◌, false, List, Some}
use Rattle.pcl_base.specs.declared.event.Event.{Event}
use Rattle.pcl_base.specs.declared.message.Body.TheVariants as body
use Rattle.pcl_base.specs.declared.message.Message.{Message}
use Rattle.pcl_base.specs.declared.message.Report.{Report}
use Rattle.run_rules.specs.Views.{View}
use Rattle.node_rules.specs.LockTable.{LockTable}
use Rattle.node_rules.specs.NodeState.{NodeState, partition, table_at}
use Rattle.cluster_rules.specs.Clusters.{Cluster, node_at}
use Rattle.page_protocol.specs.State.{Page}
use Rattle.settle_relation.specs.Arriving.{IsTakenIn}
use Rattle.report_relation.specs.Completion.Reported.{MayTake}
use Rattle.report_relation.specs.Bury.Gathered.{IsKnownAt}
use Rattle.related_runs.specs.RunLaws.{IsOfRun}
use Rattle.cluster_facts.specs.Facts.{HaveFacts}

-- All that a completed table needs is known of each table that is being rebuilt.
abbrev pub TablesAreKnown : Type 0
TablesAreKnown =
    (blank : List ℕ) (c : Cluster) → IsOfRun blank c → HaveFacts c → (n p : ℕ) (s : NodeState) (v : View) (t : LockTable) → p < c.config.pages → node_at c n ≡ Some s → s.view ≡ Some v
    → table_at s (partition c.config p) ≡ Some t → t.serving ≡ false → IsKnownAt c n p s v t

-- So a report that is taken finds nobody ahead, and where it is the last one the machine comes to have all of the era.
abbrev pub ReportsMayBeTaken : Type 0
ReportsMayBeTaken =
    (blank : List ℕ) (c : Cluster) → IsOfRun blank c → HaveFacts c → (e : Event) (n p from : ℕ) (s : NodeState) (m : Message) (r : Report) (a : Page) → IsTakenIn c e n p from s m blank a
    → m.body ≡ body.Report r → MayTake c e n p from s r a
