-- A node that is up in no view has no right to read pages of others.
use Rattle.std.specs.Prelude.{◌≡◌, ℕ, [], Some, None, IfSome}
use Rattle.pcl_base.specs.Limits.{Sizes}
use Rattle.pcl_base.specs.declared.event.Event.{Event}
use Rattle.node_rules.specs.NodeState.{NodeState}
use Rattle.node_rules.specs.Shelf.{right_on}
use Rattle.cluster_rules.specs.Clusters.{Cluster, opening, node_at}
use Rattle.cluster_rules.specs.ClusterStep.{step}
use Rattle.cluster_laws.specs.Sound.{IsCluster}

-- the shelf of a node in no view is empty
abbrev pub NoRightUnviewed : NodeState → Type 0
NoRightUnviewed s = s.view ≡ None → s.home.shelf ≡ []

-- the same of all nodes
abbrev pub NoRightsUnviewed : Cluster → Type 0
NoRightsUnviewed c = (n : ℕ) → IfSome (node_at c n) NoRightUnviewed

-- the opening cluster
abbrev pub OpeningHasNoRights : Type 0
OpeningHasNoRights = (c : Sizes) → NoRightsUnviewed (opening c)

-- a step on any event
abbrev pub StepsKeepUnviewed : Type 0
StepsKeepUnviewed = (c : Cluster) (e : Event) → IsCluster c → NoRightsUnviewed c → NoRightsUnviewed (step c e)

-- so such a node has no right of any page
abbrev pub UnviewedHaveNoRight : Type 0
UnviewedHaveNoRight =
    (c : Cluster) (m p : ℕ) (s : NodeState) → NoRightsUnviewed c → node_at c m ≡ Some s → s.view ≡ None → right_on s.home.shelf p ≡ None
