-- Who waits at a table that is being rebuilt is of a node whose report was taken, or that owes none.
use Rattle.std.specs.Prelude.{◌≡◌, ◌⊎◌, ℕ, ◌<◌, true, false, Some}
use Rattle.std.specs.List.{AllByRecursion}
use Rattle.pcl_base.specs.Limits.{Sizes}
use Rattle.pcl_base.specs.declared.event.Event.{Event}
use Rattle.pcl_base.specs.declared.lock.Waiter.{Waiter}
use Rattle.pcl_base.specs.declared.tx.TxId.{TxId}
use Rattle.run_rules.specs.Views.{View, since_of, born_of}
use Rattle.node_rules.specs.LockTable.{PageEntry, LockTable, marked, entry_at}
use Rattle.node_rules.specs.NodeState.{NodeState, table_at}
use Rattle.cluster_rules.specs.Clusters.{Cluster, opening, node_at}
use Rattle.cluster_rules.specs.ClusterStep.{step}
use Rattle.cluster_laws.specs.Sound.{IsCluster}
use Rattle.cluster_laws.specs.Link.EpochLaws.{IsInOrder}
use Rattle.related_runs.specs.Parties.{HaveParties}
use Rattle.cluster_facts.specs.Reports.Reported.{HaveReports}

-- a table marks the node of a transaction, or the node was born after the table's era
abbrev pub IsMarked : View → ℕ → LockTable → TxId → Type 0
IsMarked v q t x = (marked t x.node ≡ true) ⊎ (since_of v q < born_of v x.node)

-- each transaction that waits in a table is such a one
abbrev pub AllMarked : View → ℕ → LockTable → Type 0
AllMarked v q t = AllByRecursion (λ (x : PageEntry). AllByRecursion (λ (w : Waiter). IsMarked v q t w.tx) x.entry.waiting) t.entries

-- the same of all tables that are being rebuilt
abbrev pub WaitersAreMarked : Cluster → Type 0
WaitersAreMarked c =
    (n : ℕ) (s : NodeState) (v : View) (q : ℕ) (t : LockTable) → node_at c n ≡ Some s → s.view ≡ Some v → q < c.config.nodes → table_at s q ≡ Some t → t.serving ≡ false → AllMarked v q t

-- the opening cluster
abbrev pub OpeningHasMarked : Type 0
OpeningHasMarked = (c : Sizes) → WaitersAreMarked (opening c)

-- a step on any event
abbrev pub StepsKeepMarked : Type 0
StepsKeepMarked = (c : Cluster) (e : Event) → IsCluster c → IsInOrder c → HaveParties c → HaveReports c → WaitersAreMarked c → WaitersAreMarked (step c e)

-- so is each one that waits for a page
abbrev pub PagesAreMarked : Type 0
PagesAreMarked =
    (c : Cluster) (n : ℕ) (s : NodeState) (v : View) (q p : ℕ) (t : LockTable) → WaitersAreMarked c → node_at c n ≡ Some s → s.view ≡ Some v → q < c.config.nodes → table_at s q ≡ Some t → t.serving ≡ false
    → AllByRecursion (λ (w : Waiter). IsMarked v q t w.tx) (entry_at t p).waiting
