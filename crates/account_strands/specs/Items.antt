-- What the ledger of a trace has of each node's tables: items of those that wait there, and rights that are out.
use Rattle.std.specs.Prelude.{◌≡◌, ℕ, IfSome, length}
use Rattle.pcl_base.specs.Limits.{Sizes}
use Rattle.run_rules.specs.Ledger.{Ledger, first_ledger, wanted_at, rights_at}
use Rattle.node_rules.specs.LockRule.{LockEntry}
use Rattle.node_rules.specs.LockTable.{LockTable, entry_at}
use Rattle.node_rules.specs.NodeState.{NodeState, table_at}
use Rattle.cluster_rules.specs.Clusters.{Cluster, opening, node_at}
use Rattle.account_relation.specs.Settle.Settling.{AreWanted, AreOut}

-- an entry of a page at a node: who waits from another node has an item, and each right that isn't revoked is out
pub record HasItems (n p : ℕ) (l : Ledger) (e : LockEntry) : Type 0 where
  pub wanted : AreWanted n p (wanted_at l n) e.waiting
  pub rights : AreOut p (rights_at l n) e.rights

-- the same of all entries of a node's tables
abbrev pub HasTables : ℕ → Ledger → NodeState → Type 0
HasTables n l s = (q p : ℕ) → IfSome (table_at s q) (λ (t : LockTable). HasItems n p l (entry_at t p))

-- the same of all nodes that are up
pub record HaveItems (c : Cluster) (l : Ledger) : Type 0 where
  pub wanted : length l.wanted ≡ c.config.nodes
  pub rights : length l.rights ≡ c.config.nodes
  pub nodes : (n : ℕ) → IfSome (node_at c n) (HasTables n l)

-- the opening cluster
abbrev pub OpeningHasItems : Type 0
OpeningHasItems = (c : Sizes) → HaveItems (opening c) (first_ledger c)
