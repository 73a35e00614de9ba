-- What is known of a work inside a step, whatever page, and what settling keeps.
use Rattle.std.specs.Prelude.{◌≡◌, ℕ, ◌==◌, false, List}
use Rattle.pcl_base.specs.declared.event.Event.{Event}
use Rattle.node_rules.specs.OwnerRule.{settle_page}
use Rattle.node_rules.specs.Work.{Work, Goes, Differs}
use Rattle.node_laws.proofs.Works.{Base}
use Rattle.cluster_rules.specs.Clusters.{Cluster}
use Rattle.page_protocol.specs.State.{Page}
use Rattle.page_protocol.specs.Steps.{Reached}
use Rattle.page_relation.specs.Work.Events.{IsEntered}
use Rattle.page_relation.specs.Work.Keeping.{IsWorkOf, Keeps}
use Rattle.page_relation.specs.Work.Unseen.{IsUnseen}
pub use Rattle.settle_relation.specs.Midway.{IsMidway}

-- settling page q keeps the relation of page p
abbrev pub SettleKeeps : Base → Cluster → Event → ℕ → ℕ → ℕ → Type 0
SettleKeeps b c e n p q = Keeps c e n p (λ w a. IsMidway b c e n w × IsEntered a) (settle_page q) (λ w a. IsMidway b c e n w × IsEntered a)

-- settling another page isn't seen
abbrev pub SettleElsewhere : Base → Cluster → Event → ℕ → ℕ → ℕ → Type 0
SettleElsewhere b c e n p q = (w x : Work) → (q == p) ≡ false → IsMidway b c e n w → settle_page q w ≡ Goes x → IsUnseen c e n p w x × IsMidway b c e n x

-- nothing differs where page p of a related work is settled
abbrev pub SettleGoes : Base → Cluster → Event → ℕ → ℕ → Type 0
SettleGoes b c e n p =
    (blank : List ℕ) (w : Work) (a : Page) (q x y : ℕ) → IsMidway b c e n w → IsWorkOf c e n p w a → IsEntered a → Reached blank a → settle_page p w ≡ Differs q x y → ⊥
