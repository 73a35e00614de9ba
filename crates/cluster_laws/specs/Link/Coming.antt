-- The messages that speak of a page and may still be taken.
use Rattle.std.specs.Prelude.{◌≡◌, ◌⊎◌, ℕ, ◌==◌, ◌&&◌, Bool, false, List, [], ◌∷◌, Option}
use Rattle.std.specs.List.{filter}
use Rattle.pcl_base.specs.Limits.{Sizes}
use Rattle.pcl_base.specs.declared.event.Event.{Event}
use Rattle.pcl_base.specs.declared.event.Event.TheVariants as event
use Rattle.pcl_base.specs.declared.message.Body.{Body}
use Rattle.pcl_base.specs.declared.message.Body.TheVariants as body
use Rattle.pcl_base.specs.declared.message.Message.{Message}
use Rattle.node_rules.specs.Words.{pick}
use Rattle.node_rules.specs.NodeState.{NodeState, Outgoing, partition}
use Rattle.cluster_rules.specs.Clusters.{Cluster, node_at}
use Rattle.cluster_rules.specs.Links.{link_at}
use Rattle.cluster_laws.specs.Era.Counts.{counts_in}

-- whether a message speaks of a page; a report speaks of all pages of its partition
abbrev pub speaks_of : Sizes → ℕ → Body → Bool
speaks_of c p (body.Request r) = r.page == p
speaks_of c p (body.Grant g) = g.page == p
speaks_of c p (body.Release r) = r.page == p
speaks_of c p (body.Revoke page) = page == p
speaks_of c p (body.Return r) = r.page == p
speaks_of c p (body.Report r) = r.partition == partition c p

-- whether a message from a node on its way to a receiver speaks of a page and counts
abbrev pub is_coming : Sizes → ℕ → ℕ → Option NodeState → Message → Bool
is_coming c p from to m = speaks_of c p m.body && counts_in to from (partition c p) m.epoch

-- the messages on the link from a to b that speak of a page and count
unfoldable pub coming : Cluster → ℕ → ℕ → ℕ → List Message
coming c p a b = filter (is_coming c.config p a (node_at c b)) (link_at c.links a b)

-- of some messages that go out, those to a node, in their order
unfoldable pub sent_to : ℕ → List Outgoing → List Message
sent_to b [] = []
sent_to b (o ∷ os) = pick (o.to == b) (o.message ∷ sent_to b os) (sent_to b os)

-- whether an event delivers the head of the link from a to b
abbrev pub delivers : Event → ℕ → ℕ → Bool
delivers (event.Deliver from to) a b = a == from && b == to
delivers _ a b = false

-- a message stands in a list
abbrev pub Stands : List Message → Message → Type 0
Stands [] m = ⊥
Stands (x ∷ xs) m = (x ≡ m) ⊎ Stands xs m
