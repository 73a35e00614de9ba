-- Who holds a page and who has a right in the tables of a node in a view is of a life there.
use Rattle.std.specs.Prelude.{◌≡◌, ◌≢◌, ℕ, ◌<◌, true, false, Some, None, IfSome}
use Rattle.std.specs.List.{AllByRecursion}
use Rattle.pcl_base.specs.Limits.{Sizes}
use Rattle.pcl_base.specs.declared.event.Event.{Event}
use Rattle.pcl_base.specs.declared.lock.Holder.{Holder}
use Rattle.pcl_base.specs.declared.lock.RightMark.{RightMark}
use Rattle.pcl_base.specs.declared.tx.TxId.{TxId}
use Rattle.run_rules.specs.Views.{View, is_live, since_of}
use Rattle.node_rules.specs.LockRule.{LockEntry, mode_of, has_right}
use Rattle.node_rules.specs.LockTable.{PageEntry, LockTable, entry_at, marked}
use Rattle.node_rules.specs.NodeState.{NodeState, table_at, partition}
use Rattle.cluster_rules.specs.Clusters.{Cluster, opening, node_at}
use Rattle.cluster_rules.specs.ClusterStep.{step}
use Rattle.cluster_laws.specs.Sound.{IsCluster}
use Rattle.page_protocol.specs.State.{Page}
use Rattle.page_relation.specs.Relation.{IsPageOf}
use Rattle.related_runs.specs.Parties.{IsLiving, HaveLiving, HaveParties}

-- an entry whose holders are of lives in a view, and whose rights are of nodes that are live in it
abbrev pub EntryLives : View → LockEntry → Type 0
EntryLives v e = AllByRecursion (λ (h : Holder). IsLiving v h.tx) e.holders × AllByRecursion (λ (r : RightMark). is_live v.live r.node ≡ true) e.rights

-- the same of each entry of a table
abbrev pub TableLives : View → LockTable → Type 0
TableLives v t = AllByRecursion (λ (x : PageEntry). EntryLives v x.entry) t.entries

-- of all tables of a node in a view, served or being rebuilt
abbrev pub TablesHaveLives : NodeState → Type 0
TablesHaveLives s = IfSome s.view (λ v. (q : ℕ) → q < s.home.config.nodes → IfSome (table_at s q) (TableLives v))

-- and of all nodes
abbrev pub HaveTableLives : Cluster → Type 0
HaveTableLives c = (n : ℕ) → IfSome (node_at c n) TablesHaveLives

-- the opening cluster
abbrev pub OpeningHasTableLives : Type 0
OpeningHasTableLives = (c : Sizes) → HaveTableLives (opening c)

-- a step on any event
abbrev pub StepsHaveTableLives : Type 0
StepsHaveTableLives = (c : Cluster) (e : Event) → IsCluster c → HaveLiving c → HaveParties c → HaveTableLives c → HaveTableLives (step c e)

-- the table of a page's partition at a node that is up in a view
pub record IsTableOf (c : Cluster) (p n : ℕ) (s : NodeState) (v : View) (t : LockTable) : Type 0 where
  pub up : node_at c n ≡ Some s
  pub view : s.view ≡ Some v
  pub table : table_at s (partition c.config p) ≡ Some t

-- Who holds the page there is of a life in the view.
abbrev pub HoldersAreLiving : Type 0
HoldersAreLiving =
    (c : Cluster) (p n : ℕ) (s : NodeState) (v : View) (t : LockTable) → IsCluster c → HaveTableLives c → IsTableOf c p n s v t
    → (u : TxId) → mode_of (entry_at t p).holders u ≢ None → IsLiving v u

-- And who has a right there is live in it.
abbrev pub RightsAreLiving : Type 0
RightsAreLiving =
    (c : Cluster) (p n : ℕ) (s : NodeState) (v : View) (t : LockTable) → IsCluster c → HaveTableLives c → IsTableOf c p n s v t
    → (m : ℕ) → has_right (entry_at t p).rights m ≡ true → is_live v.live m ≡ true

-- Whom the serving era lists is of a life in the view of the node that serves.
abbrev pub ListedAreLiving : Type 0
ListedAreLiving =
    (c : Cluster) (p : ℕ) (a : Page) (n : ℕ) (s : NodeState) (v : View) (t : LockTable) → IsCluster c → HaveTableLives c → IsPageOf c p a
    → IsTableOf c p n s v t → t.serving ≡ true → (u : TxId) → a.listed u a.era ≢ None → IsLiving v u

-- Whom a later era lists of a node that has reported is of a life in the view of the node that rebuilds.
abbrev pub GatheredAreLiving : Type 0
GatheredAreLiving =
    (c : Cluster) (p : ℕ) (a : Page) (n : ℕ) (s : NodeState) (v : View) (t : LockTable) → IsCluster c → HaveTableLives c → IsPageOf c p a
    → IsTableOf c p n s v t → t.serving ≡ false → (u : TxId) → marked t u.node ≡ true
    → a.listed u (since_of v (partition c.config p)) ≢ None → IsLiving v u
