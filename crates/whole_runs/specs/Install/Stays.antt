-- What is known of a work inside an install stays through the redo and the purge of a partition.
use Rattle.std.specs.Prelude.{◌≡◌, ℕ, ◌<◌, List}
use Rattle.pcl_base.specs.declared.event.Event.{Event}
use Rattle.pcl_base.specs.declared.log.Record.{Record}
use Rattle.text_rules.specs.MessageBytes.{IsPageOf}
use Rattle.run_rules.specs.Views.{View}
use Rattle.node_rules.specs.InstallRule.{purge_work, redo_lost}
use Rattle.node_rules.specs.Work.{Goes, Work}
use Rattle.node_laws.proofs.Works.{Base}
use Rattle.cluster_rules.specs.Clusters.{Cluster}
use Rattle.report_relation.specs.Redoing.{records}
use Rattle.settle_relation.specs.Midway.{IsMidway}

-- A page of the partition is redone where lost nodes' logs are newer than its entry.
abbrev pub LostIsMidway : Type 0
LostIsMidway =
    (b : Base) (c : Cluster) (e : Event) (n q : ℕ) (lost : List Record) (r : ℕ) (w x : Work) → q < c.config.nodes → IsPageOf c.config q r → IsMidway b c e n w
    → redo_lost lost (records c) q r w ≡ Goes x → IsMidway b c e n x

-- Only what live nodes have stays in its table.
abbrev pub PurgeIsMidway : Type 0
PurgeIsMidway = (b : Base) (c : Cluster) (e : Event) (n q : ℕ) (v : View) (w : Work) → q < c.config.nodes → IsMidway b c e n w → IsMidway b c e n (purge_work q v w)
