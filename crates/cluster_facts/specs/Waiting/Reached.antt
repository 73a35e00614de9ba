-- Who waits at a table of an era is of a node that has reached that era.
use Rattle.std.specs.Prelude.{◌≡◌, ℕ, ◌<◌, ◌≤◌, Option, Some, IfSome}
use Rattle.std.specs.List.{AllByRecursion}
use Rattle.pcl_base.specs.Limits.{Sizes}
use Rattle.pcl_base.specs.declared.event.Event.{Event}
use Rattle.pcl_base.specs.declared.lock.Waiter.{Waiter}
use Rattle.pcl_base.specs.declared.tx.TxId.{TxId}
use Rattle.run_rules.specs.Views.{View}
use Rattle.node_rules.specs.LockTable.{PageEntry, LockTable, entry_at}
use Rattle.node_rules.specs.NodeState.{NodeState, table_at, table_of, partition}
use Rattle.cluster_rules.specs.Clusters.{Cluster, opening, node_at}
use Rattle.cluster_rules.specs.ClusterStep.{step}
use Rattle.cluster_laws.specs.Era.Eras.{era_in, era_at}
use Rattle.cluster_laws.specs.Link.EpochLaws.{IsInOrder}
use Rattle.cluster_laws.specs.Sound.{IsCluster}
use Rattle.page_protocol.specs.State.{Page}
use Rattle.page_relation.specs.Relation.{IsPageOf}
use Rattle.related_runs.specs.Parties.{HaveParties}

-- where the home of a transaction is up, a partition's era in a view is no later than that of the home's epoch
abbrev pub HasReached : Cluster → Option View → ℕ → TxId → Type 0
HasReached c o q t = IfSome (node_at c t.node) (λ s. era_in o q ≤ era_at c q s.epoch)

-- each transaction that waits in a table of a partition is such a one
abbrev pub WaitReached : Cluster → Option View → ℕ → LockTable → Type 0
WaitReached c o q t = AllByRecursion (λ (x : PageEntry). AllByRecursion (λ (w : Waiter). HasReached c o q w.tx) x.entry.waiting) t.entries

-- the same of all tables of a node, in its view
abbrev pub TablesReached : Cluster → NodeState → Type 0
TablesReached c s = (q : ℕ) → q < s.home.config.nodes → IfSome (table_at s q) (WaitReached c s.view q)

-- and of all nodes
abbrev pub HaveReached : Cluster → Type 0
HaveReached c = (n : ℕ) → IfSome (node_at c n) (TablesReached c)

-- the opening cluster
abbrev pub OpeningHasReached : Type 0
OpeningHasReached = (c : Sizes) → HaveReached (opening c)

-- a step on any event
abbrev pub StepsKeepReached : Type 0
StepsKeepReached = (c : Cluster) (e : Event) → IsCluster c → IsInOrder c → HaveParties c → HaveReached c → HaveReached (step c e)

-- where a node is up in a view, an era is no later than the one that the node has reached
abbrev pub HomeReached : (ℕ → ℕ) → ℕ → ℕ → Option NodeState → Type 0
HomeReached reached era n o = IfSome o (λ s. IfSome s.view (λ u. era ≤ reached n))

-- In a related cluster each waiter of a page's entry has its home in the era of the table, or in a later one.
abbrev pub WaitersHaveReached : Type 0
WaitersHaveReached =
    (c : Cluster) (p : ℕ) (a : Page) (n : ℕ) (s : NodeState) (t : LockTable) → IsCluster c → HaveReached c → IsPageOf c p a → node_at c n ≡ Some s → table_of s p ≡ Some t
    → AllByRecursion (λ w. HomeReached a.reached (era_in s.view (partition c.config p)) w.tx.node (node_at c w.tx.node)) (entry_at t p).waiting
