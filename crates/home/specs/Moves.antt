-- What moves of partitions need, and what one transaction, one right and one copy become where a partition
-- comes or goes.
use Rattle.std.specs.Prelude.{◌≡◌, ℕ, Bool, true, List, map}
use Rattle.std.specs.List.{All}
use Rattle.pcl_base.specs.Limits.{Sizes}
use Rattle.pcl_base.specs.declared.tx.TxId.{TxId}
use Rattle.pcl_base.specs.declared.lock.Kind.{Kind}
use Rattle.node_rules.specs.Words.{pick}
use Rattle.node_rules.specs.OpenTxs.{OpenTx, OpenTxs, name_of, set_kind}
use Rattle.node_rules.specs.Shelf.{Right, spend}
use Rattle.node_rules.specs.BufferRule.{Pool, clean}
use Rattle.node_rules.specs.NodeState.{HomeState}
use Rattle.node_rules.specs.InstallRule.{kinds_of_locks}
use Rattle.home.specs.Ends.{listed}

-- the names of transactions, and the pages of rights
pub record MoveListView : Type 0 where
  pub names : List TxId
  pub pages : List ℕ

-- the names are those of the open transactions
abbrev pub ListsTxs : MoveListView → OpenTxs → Type 0
ListsTxs l s = l.names ≡ map (λ (x : OpenTx). name_of s x.serial) s.txs

-- the page of each right is listed
abbrev pub ListsRights : MoveListView → List Right → Type 0
ListsRights l rights = All (λ r. listed l.pages r.page ≡ true) rights

-- a list serves the moves of partitions at a home
pub record Lists (l : MoveListView) (h : HomeState) : Type 0 where
  pub txs : ListsTxs l h.txs
  pub rights : ListsRights l h.shelf

-- a transaction whose locks on pages of a partition have a kind
abbrev pub with_kinds : Sizes → ℕ → Kind → OpenTx → OpenTx
with_kinds c q k x = record x { pages = kinds_of_locks c q k x.pages }

-- a lock gets a kind, a right is spent, and a copy is clean, where the page is one of the partition
abbrev pub kind_if : Bool → OpenTxs → TxId → ℕ → Kind → OpenTxs
kind_if within s t p k = pick within (set_kind s t p k) s

abbrev pub spend_if : Bool → List Right → ℕ → List Right
spend_if within rs p = pick within (spend rs p) rs

abbrev pub clean_if : Bool → Pool → ℕ → Pool
clean_if within b p = pick within (clean b p) b
