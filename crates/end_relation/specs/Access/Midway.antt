-- What is known of a work inside a step, whatever page, and that a page which is settled keeps the relation.
use Rattle.std.specs.Prelude.{◌≡◌, ℕ, ◌<◌, List}
use Rattle.pcl_base.specs.declared.event.Event.{Event}
use Rattle.node_rules.specs.OwnerRule.{settle_page}
use Rattle.node_rules.specs.Work.{Work, Differs}
use Rattle.node_laws.proofs.Works.{Base}
use Rattle.cluster_rules.specs.Clusters.{Cluster}
use Rattle.cluster_laws.specs.Link.EpochLaws.{IsInOrder}
use Rattle.page_protocol.specs.State.{Page}
use Rattle.page_protocol.specs.Steps.{Reached}
use Rattle.page_relation.specs.Work.Events.{IsEntered}
use Rattle.page_relation.specs.Work.Keeping.{IsWorkOf, Keeps}
use Rattle.page_relation.specs.Work.Landing.{Acts}
pub use Rattle.settle_relation.specs.Midway.{IsMidway}

-- A page that is settled at its owner keeps the relation of each page.
abbrev pub SettleKeeps : Type 0
SettleKeeps =
    (b : Base) (c : Cluster) (e : Event) (n p q : ℕ) → Acts c n → IsInOrder c → p < c.config.pages → q < c.config.pages
    → Keeps c e n p (λ w a. IsMidway b c e n w × IsEntered a) (settle_page q) (λ w a. IsMidway b c e n w × IsEntered a)

-- And no page differs in settling a page whose state the machine has.
abbrev pub SettleGoes : Type 0
SettleGoes =
    (b : Base) (c : Cluster) (e : Event) (n q page expected found : ℕ) (blank : List ℕ) (w : Work) (a : Page) → Acts c n → IsInOrder c → q < c.config.pages → Reached blank a
    → IsWorkOf c e n q w a → IsMidway b c e n w → IsEntered a → settle_page q w ≡ Differs page expected found → ⊥
