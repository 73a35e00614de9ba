-- Of which eras the messages are that may still be taken.
use Rattle.std.specs.Prelude.{◌≡◌, ℕ, ◌≤◌, ◌==◌, false}
use Rattle.std.specs.List.{AllByRecursion}
use Rattle.pcl_base.specs.declared.event.Event.{Event}
use Rattle.pcl_base.specs.declared.message.Message.{Message}
use Rattle.node_rules.specs.NodeState.{partition}
use Rattle.node_rules.specs.Work.{Work}
use Rattle.cluster_rules.specs.Clusters.{Cluster, last_view}
use Rattle.cluster_laws.specs.Era.Eras.{era_at}
use Rattle.cluster_laws.specs.Link.Coming.{coming}
use Rattle.page_protocol.specs.State.{Page}
use Rattle.page_relation.specs.Work.Keeping.{IsWorkOf}
use Rattle.page_relation.specs.Work.Landing.{land, Acts}

-- What comes to another node, inside a step, is of no earlier era than the one that serves, where what was sent in the
-- step is of an epoch of the views.
abbrev pub ComingIsNotPast : Type 0
ComingIsNotPast =
    (c : Cluster) (e : Event) (n p from to : ℕ) (w : Work) (a : Page) → Acts c n → (to == n) ≡ false
    → AllByRecursion (λ o. o.message.epoch ≤ (last_view c).epoch) w.sends → IsWorkOf c e n p w a
    → AllByRecursion (λ (k : Message). a.era ≤ era_at c (partition c.config p) k.epoch) (coming (land c e n w) p from to)
