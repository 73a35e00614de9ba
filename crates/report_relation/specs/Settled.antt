-- All pages of a partition are settled, once its table is served.
use Rattle.std.specs.Prelude.{ℕ, ◌<◌}
use Rattle.pcl_base.specs.declared.event.Event.{Event}
use Rattle.node_rules.specs.InstallRule.{settle_all}
use Rattle.node_laws.proofs.Works.{Base}
use Rattle.cluster_rules.specs.Clusters.{Cluster}
use Rattle.cluster_laws.specs.Link.EpochLaws.{IsInOrder}
use Rattle.page_relation.specs.Work.Events.{IsEntered}
use Rattle.page_relation.specs.Work.Keeping.{Keeps}
use Rattle.page_relation.specs.Work.Landing.{Acts}
use Rattle.settle_relation.specs.Midway.{IsMidway}

-- It keeps the relation of each page.
abbrev pub AllAreSettled : Type 0
AllAreSettled =
    (b : Base) (c : Cluster) (e : Event) (n p q : ℕ) → Acts c n → IsInOrder c → p < c.config.pages → q < c.config.nodes
    → Keeps c e n p (λ w a. IsMidway b c e n w × IsEntered a) (settle_all q) (λ w a. IsMidway b c e n w × IsEntered a)
