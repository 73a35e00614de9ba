-- Whose transactions wait in the tables of a node, and that each message has its parties.
use Rattle.std.specs.Prelude.{◌≡◌, ℕ, ◌<◌, true, IfSome}
use Rattle.std.specs.List.{AllByRecursion}
use Rattle.pcl_base.specs.Limits.{Sizes}
use Rattle.pcl_base.specs.declared.event.Event.{Event}
use Rattle.pcl_base.specs.declared.lock.Waiter.{Waiter}
use Rattle.pcl_base.specs.declared.tx.TxId.{TxId}
use Rattle.run_rules.specs.Views.{View, is_live, born_of}
use Rattle.node_rules.specs.LockTable.{PageEntry, LockTable}
use Rattle.node_rules.specs.NodeState.{NodeState, table_at}
use Rattle.cluster_rules.specs.Clusters.{Cluster, opening, node_at}
use Rattle.cluster_rules.specs.ClusterStep.{step}
use Rattle.cluster_rules.specs.Links.{link_at}
use Rattle.cluster_laws.specs.Sound.{IsCluster}
use Rattle.page_relation.specs.Together.{IsParty}

-- a transaction of a node's life in a view
pub record IsLiving (v : View) (t : TxId) : Type 0 where
  pub live : is_live v.live t.node ≡ true
  pub born : t.born ≡ born_of v t.node

-- each transaction that waits in a table is one of a life in a view
abbrev pub WaitLiving : View → LockTable → Type 0
WaitLiving v t = AllByRecursion (λ (x : PageEntry). AllByRecursion (λ (w : Waiter). IsLiving v w.tx) x.entry.waiting) t.entries

-- the same of all tables of a node in a view
abbrev pub TablesLiving : NodeState → Type 0
TablesLiving s = IfSome s.view (λ v. (q : ℕ) → q < s.home.config.nodes → IfSome (table_at s q) (WaitLiving v))

-- and of all nodes
abbrev pub HaveLiving : Cluster → Type 0
HaveLiving c = (n : ℕ) → IfSome (node_at c n) TablesLiving

-- each message has its parties: who sends it to whom, and whose transactions it names
abbrev pub HaveParties : Cluster → Type 0
HaveParties c = (a b : ℕ) → AllByRecursion (IsParty c a b) (link_at c.links a b)

-- the opening cluster
abbrev pub OpeningHasLiving : Type 0
OpeningHasLiving = (c : Sizes) → HaveLiving (opening c)

-- a step on any event keeps both
abbrev pub StepsKeepParties : Type 0
StepsKeepParties = (c : Cluster) (e : Event) → IsCluster c → HaveLiving c → HaveParties c → HaveLiving (step c e) × HaveParties (step c e)
