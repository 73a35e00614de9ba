-- Settling a page.
use Rattle.std.specs.Prelude.{◌≡◌, ℕ, ◌<◌, List}
use Rattle.pcl_base.specs.declared.event.Event.{Event}
use Rattle.node_rules.specs.OwnerRule.{settle_page}
use Rattle.node_rules.specs.Work.{Work, Differs}
use Rattle.node_laws.proofs.Works.{Base}
use Rattle.cluster_rules.specs.Clusters.{Cluster}
use Rattle.cluster_laws.specs.Link.EpochLaws.{IsInOrder}
use Rattle.page_protocol.specs.State.{Page}
use Rattle.page_protocol.specs.Steps.{Reached}
use Rattle.page_relation.specs.Work.Events.{IsEntered}
use Rattle.page_relation.specs.Work.Keeping.{IsWorkOf, Keeps}
use Rattle.page_relation.specs.Work.Landing.{Acts}
use Rattle.settle_relation.specs.Midway.{IsMidway}

-- Any page that is settled keeps the relation of each page.
abbrev pub SettlingKeeps : Type 0
SettlingKeeps =
    (b : Base) (c : Cluster) (e : Event) (n p r : ℕ) → Acts c n → IsInOrder c → p < c.config.pages → r < c.config.pages
    → Keeps c e n p (λ w a. IsMidway b c e n w × IsEntered a) (settle_page r) (λ w a. IsMidway b c e n w × IsEntered a)

-- No page that is read for it differs, where the settled page is related.
abbrev pub SettlingAgrees : Type 0
SettlingAgrees =
    (b : Base) (c : Cluster) (e : Event) (n p : ℕ) (blank : List ℕ) (w : Work) (a : Page) (k expected found : ℕ) → Acts c n → IsInOrder c → p < c.config.pages → Reached blank a
    → IsWorkOf c e n p w a → IsMidway b c e n w → IsEntered a → settle_page p w ≡ Differs k expected found → ⊥
