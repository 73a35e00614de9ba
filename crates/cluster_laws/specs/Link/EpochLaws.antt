-- The epochs of what is on the links.
use Rattle.std.specs.Prelude.{ℕ, ◌≤◌, List, [], ◌∷◌, IfSome, ⊤}
use Rattle.std.specs.List.{AllByRecursion}
use Rattle.pcl_base.specs.Limits.{Sizes}
use Rattle.pcl_base.specs.declared.event.Event.{Event}
use Rattle.pcl_base.specs.declared.message.Message.{Message}
use Rattle.cluster_rules.specs.Clusters.{Cluster, opening, node_at}
use Rattle.cluster_rules.specs.ClusterStep.{step}
use Rattle.cluster_rules.specs.Links.{link_at}
use Rattle.cluster_laws.specs.Sound.{IsCluster}

-- epochs don't fall along a link
abbrev pub Rises : ℕ → List Message → Type 0
Rises low [] = ⊤
Rises low (m ∷ ms) = (low ≤ m.epoch) × Rises m.epoch ms

-- what a node that is up has on a link is of no later epoch than its own, and no epoch falls along a link
pub record IsInOrder (c : Cluster) : Type 0 where
  pub behind : (a b : ℕ) → IfSome (node_at c a) (λ s. AllByRecursion (λ m. m.epoch ≤ s.epoch) (link_at c.links a b))
  pub rising : (a b : ℕ) → Rises 0 (link_at c.links a b)

-- the opening cluster
abbrev pub OpeningIsInOrder : Type 0
OpeningIsInOrder = (c : Sizes) → IsInOrder (opening c)

-- a step on any event
abbrev pub StepsKeepOrder : Type 0
StepsKeepOrder = (c : Cluster) (e : Event) → IsCluster c → IsInOrder c → IsInOrder (step c e)
