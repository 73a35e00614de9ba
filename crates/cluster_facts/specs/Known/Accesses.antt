-- Who is granted an access of a page in a step holds it then.
use Rattle.std.specs.Prelude.{◌≡◌, ◌≢◌, ℕ, [], Some, None}
use Rattle.pcl_base.specs.declared.event.Event.{Event}
use Rattle.pcl_base.specs.declared.tx.TxId.{TxId}
use Rattle.node_rules.specs.NodeState.{NodeState, NodeEvent}
use Rattle.node_rules.specs.NodeStep.{Plan}
use Rattle.node_rules.specs.OpenTxs.{held_by}
use Rattle.cluster_rules.specs.Clusters.{Cluster, node_at}
use Rattle.cluster_rules.specs.ClusterStep.{step}
use Rattle.cluster_laws.specs.Sound.{IsCluster}
use Rattle.cluster_laws.specs.Link.StepLaws.{IsPlanned}
use Rattle.page_laws.specs.Moment.Looks.{accesses_in}

-- at the node that acts a transaction holds a page once the step is done
pub record HoldsNow (c : Cluster) (e : Event) (d : Cluster) (t : TxId) (p : ℕ) : Type 0 where
  pub node : ℕ
  pub state : NodeState
  pub event : NodeEvent
  pub plan : Plan
  pub planned : IsPlanned c e node state event plan
  pub now : node_at d node ≡ Some plan.node
  pub holds : held_by plan.node.home.txs t p ≢ None

-- a step in which a transaction first accesses a page
abbrev pub NewAccessesAreHeld : Type 0
NewAccessesAreHeld =
    (c : Cluster) (e : Event) (t : TxId) (p : ℕ) → IsCluster c → accesses_in t p c.trace ≡ [] → accesses_in t p (step c e).trace ≢ []
    → HoldsNow c e (step c e) t p
