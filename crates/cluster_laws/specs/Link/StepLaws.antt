-- What a step of a cluster does to a node, to a link, and to the messages of a page on it that count.
use Rattle.std.specs.Prelude.{◌≡◌, ◌⊎◌, ℕ, ◌<◌, ◌==◌, ◌&&◌, true, List, [], ◌∷◌, ◌++◌, Option, Some, None}
use Rattle.std.specs.List.{filter, AllByRecursion}
use Rattle.pcl_base.specs.declared.event.Event.{Event}
use Rattle.pcl_base.specs.declared.event.Event.TheVariants as event
use Rattle.pcl_base.specs.declared.message.Message.{Message}
use Rattle.node_rules.specs.Words.{pick}
use Rattle.node_rules.specs.NodeState.{NodeState, NodeEvent, start_node}
use Rattle.node_rules.specs.Work.{Goes}
use Rattle.node_rules.specs.NodeStep.{Plan, nodestep}
use Rattle.cluster_rules.specs.Clusters.{Cluster, node_at, is_up, last_view}
use Rattle.cluster_rules.specs.ClusterStep.{is_taken, links_after, made, step}
use Rattle.cluster_rules.specs.Links.{link_at, tail_of}
use Rattle.cluster_laws.specs.Epochs.{StaysInView}
use Rattle.cluster_laws.specs.Handed.{IsHanded}
use Rattle.cluster_laws.specs.Sound.{IsOnLink, IsCluster}
use Rattle.cluster_laws.specs.Link.Coming.{is_coming, coming, sent_to, Stands}

-- the plan of a node for the event that it gets
pub record IsPlanned (c : Cluster) (e : Event) (n : ℕ) (s : NodeState) (ev : NodeEvent) (p : Plan) : Type 0 where
  pub handed : IsHanded c e n s ev
  pub goes : nodestep s ev c.disk ≡ Goes p

-- a step keeps the sizes
abbrev pub SizesStay : Type 0
SizesStay = (c : Cluster) (e : Event) → (step c e).config ≡ c.config

-- the links after a step that is made whole: the head is taken, and then it is sent
abbrev pub LinksOfMade : Type 0
LinksOfMade =
    (c : Cluster) (e : Event) (n : ℕ) (s : NodeState) (ev : NodeEvent) (p : Plan) (x y : ℕ) → IsCluster c → IsPlanned c e n s ev p
    → link_at (made e n p c).links x y
    ≡ link_at (links_after e p.replies c.links) x y ++ pick (x == n && is_up c y) (sent_to y p.sends) []

-- what becomes of a node: it stays as it is, or takes its step, or is lost, or starts before a further view
pub data IsNodeStep (c : Cluster) (e : Event) (n : ℕ) (now : Option NodeState) : Type 0 where
  node_stays : now ≡ node_at c n → IsNodeStep c e n now
  node_acts : (s : NodeState) (ev : NodeEvent) (p : Plan) → IsPlanned c e n s ev p → now ≡ Some p.node → IsNodeStep c e n now
  node_lost : now ≡ None → IsNodeStep c e n now
  node_starts : now ≡ Some (start_node c.config n (last_view c).epoch) → node_at c n ≡ None → IsNodeStep c e n now

-- a step on any event
abbrev pub NodesStep : Type 0
NodesStep = (c : Cluster) (e : Event) (n : ℕ) → IsCluster c → IsNodeStep c e n (node_at (step c e) n)

-- the epoch of a node doesn't fall, and rises where it installs a view
abbrev pub EpochsGoOn : Type 0
EpochsGoOn =
    (c : Cluster) (e : Event) (n : ℕ) (s : NodeState) (ev : NodeEvent) (p : Plan) → IsCluster c → IsPlanned c e n s ev p
    → StaysInView s p.node ⊎ (s.epoch < p.node.epoch)

-- What becomes of the link from a to b where a is `from` and b is `now` afterwards. It is as it was. Or a sends to b, which
-- is up. Or b takes the head. Or it is empty, as b is lost.
pub data IsLinkStep (c : Cluster) (e : Event) (a b : ℕ) (from now : Option NodeState) (ms : List Message) : Type 0 where
  link_stays : ms ≡ link_at c.links a b → IsLinkStep c e a b from now ms
  link_gets : (s : NodeState) (ev : NodeEvent) (p : Plan) → IsPlanned c e a s ev p → is_up c b ≡ true → from ≡ Some p.node → now ≡ node_at c b
      → ms ≡ link_at c.links a b ++ sent_to b p.sends → IsLinkStep c e a b from now ms
  link_loses : (s : NodeState) (ev : NodeEvent) (p : Plan) → e ≡ event.Deliver a b → IsPlanned c e b s ev p → is_taken p.replies ≡ true → now ≡ Some p.node
      → ms ≡ tail_of (link_at c.links a b) → IsLinkStep c e a b from now ms
  link_cleared : now ≡ None → ms ≡ [] → IsLinkStep c e a b from now ms

-- a step on any event
abbrev pub LinksStep : Type 0
LinksStep =
    (c : Cluster) (e : Event) (a b : ℕ) → IsCluster c → IsLinkStep c e a b (node_at (step c e) a) (node_at (step c e) b) (link_at (step c e).links a b)

-- What becomes of the messages of a page that come from a to b: those that still count are there, in their
-- order. Or a sends further ones. Or b takes the head of the link, which may be one of them.
pub data IsComingStep (c : Cluster) (e : Event) (p a b : ℕ) (now : Option NodeState) (ms : List Message) : Type 0 where
  count_less : ms ≡ filter (is_coming c.config p a now) (coming c p a b) → IsComingStep c e p a b now ms
  more_come : (s : NodeState) (ev : NodeEvent) (plan : Plan) → IsPlanned c e a s ev plan → now ≡ node_at c b
      → ms ≡ coming c p a b ++ filter (is_coming c.config p a (node_at c b)) (sent_to b plan.sends) → IsComingStep c e p a b now ms
  one_taken : (m : Message) (rest : List Message) → e ≡ event.Deliver a b → link_at c.links a b ≡ m ∷ rest
      → ms ≡ pick (is_coming c.config p a (node_at c b) m) (tail_of (coming c p a b)) (coming c p a b) → IsComingStep c e p a b now ms

-- a step on any event
abbrev pub ComingSteps : Type 0
ComingSteps =
    (c : Cluster) (e : Event) (p a b : ℕ) → IsCluster c → IsComingStep c e p a b (node_at (step c e) b) (coming (step c e) p a b)

-- a message that a sends to b in its step
pub record IsSentNow (c : Cluster) (e : Event) (a b : ℕ) (m : Message) : Type 0 where
  pub state : NodeState
  pub event : NodeEvent
  pub plan : Plan
  pub planned : IsPlanned c e a state event plan
  pub up : is_up c b ≡ true
  pub sent : Stands (sent_to b plan.sends) m

-- each message on a link was there before, or is sent now
abbrev pub MessagesComeFrom : Type 0
MessagesComeFrom =
    (c : Cluster) (e : Event) (a b : ℕ) (m : Message) → IsCluster c → Stands (link_at (step c e).links a b) m
    → Stands (link_at c.links a b) m ⊎ IsSentNow c e a b m

-- what a node sends to another may go on the link, and is of the epoch at which the node is after its step
abbrev pub SentAreOfEpoch : Type 0
SentAreOfEpoch =
    (c : Cluster) (e : Event) (n : ℕ) (s : NodeState) (ev : NodeEvent) (p : Plan) (b : ℕ) → IsCluster c → IsPlanned c e n s ev p
    → AllByRecursion (λ m. IsOnLink c.config (last_view c).epoch n b m × (m.epoch ≡ p.node.epoch)) (sent_to b p.sends)
