-- What a home shows of its transactions and pages, part by part, and that a part stays.
use Rattle.std.specs.Prelude.{◌≡◌, ℕ, ◌==◌, ◌&&◌, Bool}
use Rattle.pcl_base.specs.declared.tx.TxId.{TxId}
use Rattle.node_rules.specs.Words.{same_tx}
use Rattle.node_rules.specs.OpenTxs.{is_open, held_by, pending_of}
use Rattle.node_rules.specs.Shelf.{right_on}
use Rattle.node_rules.specs.BufferRule.{copy_at, private_bytes}
use Rattle.node_rules.specs.NodeState.{HomeState, runs_at}

-- whether u and q are this transaction and this page
abbrev pub is_place : TxId → ℕ → TxId → ℕ → Bool
is_place t p u q = same_tx u t && q == p

-- whose home it is, and which transactions are open
pub record SameLife (h g : HomeState) : Type 0 where
  pub config : g.config ≡ h.config
  pub node : g.txs.node ≡ h.txs.node
  pub born : g.txs.born ≡ h.txs.born
  pub last : g.txs.last ≡ h.txs.last
  pub alive : (u : TxId) → is_open g.txs u ≡ is_open h.txs u

-- what each transaction holds and waits for
pub record SameLocks (h g : HomeState) : Type 0 where
  pub held : (u : TxId) (q : ℕ) → held_by g.txs u q ≡ held_by h.txs u q
  pub waits : (u : TxId) → pending_of g.txs u ≡ pending_of h.txs u

-- the private copies, and the places that were written
pub record SamePrivates (h g : HomeState) : Type 0 where
  pub bytes : (u : TxId) (q : ℕ) → private_bytes g.pool u q ≡ private_bytes h.pool u q
  pub runs : (u : TxId) (q : ℕ) → runs_at g.written u q ≡ runs_at h.written u q

-- the rights and their readers
abbrev pub SameRights : HomeState → HomeState → Type 0
SameRights h g = (q : ℕ) → right_on g.shelf q ≡ right_on h.shelf q

-- the copies of pages
abbrev pub SameCopies : HomeState → HomeState → Type 0
SameCopies h g = (q : ℕ) → copy_at g.pool q ≡ copy_at h.pool q

-- all but the copies of pages
pub record SameBesideCopies (h g : HomeState) : Type 0 where
  pub life : SameLife h g
  pub locks : SameLocks h g
  pub privates : SamePrivates h g
  pub rights : SameRights h g
