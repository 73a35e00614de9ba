-- What is known of a work inside a step, through redo.
use Rattle.std.specs.Prelude.{◌≡◌, ℕ, ◌<◌}
use Rattle.pcl_base.specs.declared.event.Event.{Event}
use Rattle.text_rules.specs.MessageBytes.{IsPageOf}
use Rattle.node_rules.specs.InstallRule.{redo_page}
use Rattle.node_rules.specs.Work.{Work, Goes}
use Rattle.node_laws.proofs.Works.{Base}
use Rattle.cluster_rules.specs.Clusters.{Cluster}
use Rattle.settle_relation.specs.Midway.{IsMidway}
use Rattle.report_relation.specs.Redoing.{records}

-- The redo of a page of a partition leaves it.
abbrev pub RedoIsMidway : Type 0
RedoIsMidway =
    (b : Base) (c : Cluster) (e : Event) (n q r : ℕ) (w x : Work) → q < b.config.nodes → IsPageOf b.config q r → IsMidway b c e n w
    → redo_page (records c) q r w ≡ Goes x → IsMidway b c e n x
