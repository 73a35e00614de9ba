-- Transactions that are past in a view, which may be buried.
use Rattle.std.specs.Prelude.{◌≡◌, ℕ, ◌<◌, ◌≤◌, ◌==◌, ◌&&◌, not, nat_le, Bool, true, false, Some, None}
use Rattle.std.specs.List.{AllByRecursion}
use Rattle.pcl_base.specs.declared.event.Event.{Event}
use Rattle.pcl_base.specs.declared.tx.TxId.{TxId}
use Rattle.run_rules.specs.Views.{View, born_of, is_live, owner_of, since_of}
use Rattle.node_rules.specs.LockRule.{mode_of}
use Rattle.node_rules.specs.LockTable.{LockTable, entry_at}
use Rattle.node_rules.specs.NodeState.{NodeState, number_of, partition, table_at}
use Rattle.node_rules.specs.Work.{Work}
use Rattle.cluster_rules.specs.Clusters.{Cluster, last_view, node_at, view_of_epoch}
use Rattle.cluster_laws.specs.Link.Coming.{coming}
use Rattle.page_protocol.specs.State.{Page, IsClosed}
use Rattle.page_relation.specs.Together.{IsParty}
use Rattle.related_runs.specs.Parties.{IsLiving}
use Rattle.page_relation.specs.Work.Keeping.{IsWorkOf}
use Rattle.page_relation.specs.Work.Landing.{land, Acts}
use Rattle.report_relation.specs.Bury.Burying.{MayBury}

-- whether a transaction is of a life in a view
abbrev pub is_living : View → TxId → Bool
is_living v t = is_live v.live t.node && t.born == born_of v t.node

-- whether it was born by then, and is of no life in it
abbrev pub past_in : View → TxId → Bool
past_in v t = nat_le t.born v.epoch && not (is_living v t)

-- the holders of a page in a table are of lives in a view
abbrev pub HoldersLive : View → LockTable → ℕ → Type 0
HoldersLive v t p = (u : TxId) → (mode_of (entry_at t p).holders u ≡ None → ⊥) → IsLiving v u

-- so are those in the tables of other nodes, in their views
abbrev pub OthersLive : Cluster → ℕ → ℕ → Type 0
OthersLive c n p =
    (m : ℕ) (s : NodeState) (v : View) (t : LockTable) → (m == n) ≡ false → node_at c m ≡ Some s → s.view ≡ Some v → table_at s (partition c.config p) ≡ Some t
    → HoldersLive v t p

-- The acting node is in a view in which it owns the page's partition, with its life there; and what comes has its parties.
pub record IsOwner (c : Cluster) (e : Event) (n p : ℕ) (v : View) (w : Work) : Type 0 where
  pub there : view_of_epoch c.views v.epoch ≡ Some v
  pub made : v.epoch ≤ (last_view c).epoch
  pub number : number_of w.node ≡ n
  pub view : w.node.view ≡ Some v
  pub listed : is_live v.live n ≡ true
  pub born : w.node.home.txs.born ≡ born_of v n
  pub owner : owner_of v (partition c.config p) ≡ n
  pub parties : (from to : ℕ) → AllByRecursion (IsParty c from to) (coming (land c e n w) p from to)

-- Who is past is closed.
abbrev pub PastAreClosed : Type 0
PastAreClosed =
    (c : Cluster) (e : Event) (n p : ℕ) (v : View) (w : Work) (a : Page) (t : TxId) → Acts c n → IsOwner c e n p v w → IsWorkOf c e n p w a → past_in v t ≡ true → IsClosed (a.home t)

-- They may be buried for the eras after the one that the node owns; and for that one too, where its table is being rebuilt
-- and has holders of lives in the view alone.
abbrev pub PastMayBeBuried : Type 0
PastMayBeBuried =
    (c : Cluster) (e : Event) (n p low : ℕ) (v : View) (w : Work) → Acts c n → partition c.config p < c.config.nodes → IsOwner c e n p v w → OthersLive c n p
    → since_of v (partition c.config p) ≤ low
    → ((t : LockTable) → table_at w.node (partition c.config p) ≡ Some t → low ≤ since_of v (partition c.config p) → HoldersLive v t p)
    → MayBury (land c e n w) p low (past_in v)
