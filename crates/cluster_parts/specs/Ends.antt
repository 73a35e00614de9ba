-- How a step of a cluster ends.
use Rattle.std.specs.Prelude.{◌≡◌, ◌⊎◌, ℕ, Result, Ok, Err, IsSome}
use Rattle.pcl_base.specs.declared.event.Event.{Event}
use Rattle.node_rules.specs.NodeState.{NodeState, NodeEvent}
use Rattle.node_rules.specs.NodeStep.{nodestep}
use Rattle.node_rules.specs.Work.{Differs as differs}
use Rattle.cluster_rules.specs.Clusters.{Cluster, stop_at}
use Rattle.cluster_rules.specs.ClusterStep.{step}
use Rattle.cluster_laws.specs.Handed.{IsHanded}
use Rattle.cluster_parts.specs.declared.fault.ClusterFault.{ClusterFault}
use Rattle.cluster_parts.specs.declared.fault.ClusterFault.TheVariants.{NoMemory, Differs}

-- in the step of the rules a node reads a page that has another number or version than it must
pub record StepDiffers (c : Cluster) (e : Event) (page expected found : ℕ) : Type 0 where
  pub node : ℕ
  pub state : NodeState
  pub event : NodeEvent
  pub handed : IsHanded c e node state event
  pub reads : nodestep state event c.disk ≡ differs page expected found

-- so it is, and a stop is armed for that node, which ends the step at a call before the reading
pub record IsCutShort (c : Cluster) (e : Event) : Type 0 where
  pub page : ℕ
  pub expected : ℕ
  pub found : ℕ
  pub step : StepDiffers c e page expected found
  pub armed : IsSome (stop_at c step.node)

-- a step is that of the rules, unless it was cut short; want of memory leaves all as before; and a page
-- differs only where it does in the step of the rules
abbrev pub Ends : {T : Type 0} → Cluster → Event → Result T ClusterFault → Cluster → Type 0
Ends c e (Ok x) d = (d ≡ step c e) ⊎ IsCutShort c e
Ends c e (Err NoMemory) d = d ≡ c
Ends c e (Err (Differs page expected found)) d = StepDiffers c e page expected found

-- a step in which no node reads a page comes to a cluster
abbrev pub ComesTo : {T : Type 0} → Cluster → Cluster → Result T ClusterFault → Cluster → Type 0
ComesTo c next (Ok x) d = d ≡ next
ComesTo c next (Err NoMemory) d = d ≡ c
ComesTo c next (Err (Differs page expected found)) d = ⊥
