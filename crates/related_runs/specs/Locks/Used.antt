-- Locks that were used: who holds a page has accessed it, as a cluster's nodes and its trace have it.
use Rattle.std.specs.Prelude.{◌≢◌, ℕ, List, [], None, IfSome}
use Rattle.pcl_base.specs.Limits.{Sizes}
use Rattle.pcl_base.specs.declared.event.Event.{Event}
use Rattle.pcl_base.specs.declared.trace.Entry.{Entry}
use Rattle.pcl_base.specs.declared.tx.TxId.{TxId}
use Rattle.node_rules.specs.NodeState.{NodeState}
use Rattle.node_rules.specs.OpenTxs.{held_by}
use Rattle.cluster_rules.specs.Clusters.{Cluster, opening, node_at}
use Rattle.cluster_rules.specs.ClusterStep.{step}
use Rattle.cluster_laws.specs.Sound.{IsCluster}
use Rattle.page_laws.specs.Moment.Looks.{accesses_in}
use Rattle.page_relation.specs.Together.{WaitsAsAsked}

-- each page that a transaction of a node holds it has accessed
abbrev pub NodeUses : List Entry → NodeState → Type 0
NodeUses trace s = (t : TxId) (p : ℕ) → held_by s.home.txs t p ≢ None → accesses_in t p trace ≢ []

-- the same at each node that is up
abbrev pub HaveUsedLocks : Cluster → Type 0
HaveUsedLocks c = (n : ℕ) → IfSome (node_at c n) (NodeUses c.trace)

-- each access that waits is the last one that its transaction asked for
abbrev pub AllAsked : Cluster → Type 0
AllAsked c = (t : TxId) → WaitsAsAsked c t (node_at c t.node)

-- the opening cluster
abbrev pub OpeningHasUsed : Type 0
OpeningHasUsed = (c : Sizes) → HaveUsedLocks (opening c)

-- a step on any event
abbrev pub StepsHaveUsed : Type 0
StepsHaveUsed = (c : Cluster) (e : Event) → IsCluster c → AllAsked c → HaveUsedLocks c → HaveUsedLocks (step c e)
