-- What is known of a page at a node that installs a view, beside the relation.
use Rattle.std.specs.Prelude.{◌≡◌, ℕ, ◌≤◌, Some}
use Rattle.std.specs.List.{AllByRecursion}
use Rattle.pcl_base.specs.declared.lock.Waiter.{Waiter}
use Rattle.node_rules.specs.LockTable.{LockTable, entry_at}
use Rattle.node_rules.specs.NodeState.{NodeState, partition, table_at}
use Rattle.cluster_rules.specs.Clusters.{Cluster, node_at}
use Rattle.cluster_laws.specs.Era.Eras.{era_in}

-- Who waits at a table and is of the node, waits in no later era than this.
abbrev pub IsHeardAt : Cluster → ℕ → ℕ → ℕ → Type 0
IsHeardAt c n p r =
    (m : ℕ) (x : NodeState) (t : LockTable) → node_at c m ≡ Some x → table_at x (partition c.config p) ≡ Some t
    → AllByRecursion (λ (y : Waiter). y.tx.node ≡ n → era_in x.view (partition c.config p) ≤ r) (entry_at t p).waiting
