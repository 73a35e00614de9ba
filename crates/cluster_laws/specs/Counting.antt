-- What a step adds to the trace and to the links.
use Rattle.std.specs.Prelude.{◌≡◌, ◌≢◌, ◌⊎◌, ℕ, ◌+◌, ◌≤◌, List, [], ◌∷◌, ◌++◌, length, Option, Some, None}
use Rattle.pcl_base.specs.declared.event.Event.{Event}
use Rattle.pcl_base.specs.declared.event.Event.TheVariants as event
use Rattle.pcl_base.specs.declared.message.Message.{Message}
use Rattle.pcl_base.specs.declared.trace.Entry.{Entry}
use Rattle.node_rules.specs.Words.{head_of}
use Rattle.node_rules.specs.NodeState.{NodeState, NodeEvent}
use Rattle.step_laws.specs.Most.{most}
use Rattle.cluster_rules.specs.Links.{link_at, tail_of}
use Rattle.cluster_rules.specs.Clusters.{Cluster, node_at}
use Rattle.cluster_rules.specs.ClusterStep.{named, step}
use Rattle.cluster_laws.specs.Handed.{IsHanded}

-- an entry of the environment, or of a step that was refused or lost: it has no sends
pub record IsQuiet (x : Entry) : Type 0 where
  pub sent : x.sent ≡ []
  pub replies : length x.replies ≤ 1

-- an entry of a node's step, which gives at most so much
pub record IsGiven (c : Cluster) (e : Event) (x : Entry) : Type 0 where
  pub node : ℕ
  pub state : NodeState
  pub event : NodeEvent
  pub handed : IsHanded c e node state event
  pub sent : length x.sent ≤ most state event
  pub replies : length x.replies ≤ most state event

-- one entry is added, which is of the event
pub record AddsOne (c : Cluster) (e : Event) (d : Cluster) : Type 0 where
  pub entry : Entry
  pub added : d.trace ≡ c.trace ++ entry ∷ []
  pub event : entry.event ≡ e
  pub few : IsQuiet entry ⊎ IsGiven c e entry

-- a step adds one entry to the trace
abbrev pub StepsAreCounted : Type 0
StepsAreCounted = (c : Cluster) (e : Event) → AddsOne c e (step c e)

-- what becomes of the link from a to b where b is `now` afterwards: it is as it was, or without the
-- head that was delivered, or empty as b is down
pub data LinkStays (c : Cluster) (e : Event) (a b : ℕ) (now : Option NodeState) (ms : List Message) : Type 0 where
  same : ms ≡ link_at c.links a b → LinkStays c e a b now ms
  taken : e ≡ event.Deliver a b → ms ≡ tail_of (link_at c.links a b) → LinkStays c e a b now ms
  cleared : now ≡ None → ms ≡ [] → LinkStays c e a b now ms

-- links from other nodes than the acting one get nothing
abbrev pub OtherLinksStay : Type 0
OtherLinksStay =
    (c : Cluster) (e : Event) (a b : ℕ) → head_of (named e) ≢ Some a
    → LinkStays c e a b (node_at (step c e) b) (link_at (step c e).links a b)

-- links from the acting node grow by at most so much
abbrev pub LinksGrowByMost : Type 0
LinksGrowByMost =
    (c : Cluster) (e : Event) (n : ℕ) (s : NodeState) (ev : NodeEvent) (b : ℕ) → IsHanded c e n s ev
    → length (link_at (step c e).links n b) ≤ length (link_at c.links n b) + most s ev
