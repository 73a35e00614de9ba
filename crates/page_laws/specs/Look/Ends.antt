-- What the end of a transaction, a change of a peer, and a partition that comes or goes make of a home.
use Rattle.std.specs.Prelude.{◌≡◌, ℕ, ◌==◌, ◌&&◌, not, true, false, [], slice_set, Option, Some, None}
use Rattle.std.specs.Prelude.{option_map}
use Rattle.pcl_base.specs.declared.tx.TxId.{TxId}
use Rattle.pcl_base.specs.declared.lock.Kind.{Kind}
use Rattle.pcl_base.specs.declared.lock.Kind.TheVariants as kind
use Rattle.pcl_base.specs.declared.message.Change.{Change}
use Rattle.text_rules.specs.StoredPage.{stored_bytes}
use Rattle.node_rules.specs.Words.{pick, same_tx, among}
use Rattle.node_rules.specs.OpenTxs.{is_open, held_by, pending_of}
use Rattle.node_rules.specs.Shelf.{Right, right_on, readers_of}
use Rattle.node_rules.specs.BufferRule.{Copy, copy_at, private_bytes, has_slot, cleaned, published}
use Rattle.node_rules.specs.NodeState.{HomeState, NodeState, partition, runs_at}
use Rattle.node_rules.specs.Work.{HomeWork}
use Rattle.node_rules.specs.EndRule.{Closed, is_own_lock, abort, commit}
use Rattle.node_rules.specs.OwnerRule.{dirty_copy, put_change}
use Rattle.node_rules.specs.InstallRule.{take_over, give_up}
use Rattle.home_laws.specs.Homes.{IsHome, is_exclusive_lock}
use Rattle.page_laws.specs.Look.Parts.{SameLife, SamePrivates, SameRights, SameCopies, SameBesideCopies}
use Rattle.page_laws.specs.Look.Buffers.{LetsGo, stored_copy}
use Rattle.page_laws.specs.Look.Grants.{of_kind}

-- the version of a right
abbrev pub version_of_right : Option Right → Option ℕ
version_of_right None = None
version_of_right (Some r) = Some r.version

-- a home without a transaction: nothing of it is left, and of the others all
pub record IsWithoutTx (t : TxId) (h g : HomeState) : Type 0 where
  pub config : g.config ≡ h.config
  pub named : (g.txs.node ≡ h.txs.node) × (g.txs.born ≡ h.txs.born) × (g.txs.last ≡ h.txs.last)
  pub alive : (u : TxId) → is_open g.txs u ≡ not (same_tx u t) && is_open h.txs u
  pub held : (u : TxId) (q : ℕ) → held_by g.txs u q ≡ pick (same_tx u t) None (held_by h.txs u q)
  pub waits : (u : TxId) → pending_of g.txs u ≡ pick (same_tx u t) None (pending_of h.txs u)
  pub bytes : (u : TxId) (q : ℕ) → private_bytes g.pool u q ≡ pick (same_tx u t) None (private_bytes h.pool u q)
  pub runs : (u : TxId) (q : ℕ) → runs_at g.written u q ≡ pick (same_tx u t) [] (runs_at h.written u q)
  pub rights : (q : ℕ) → version_of_right (right_on g.shelf q) ≡ version_of_right (right_on h.shelf q)
  pub readers : (u : TxId) (q : ℕ) → same_tx u t ≡ false → among (readers_of (right_on g.shelf q)) u ≡ among (readers_of (right_on h.shelf q)) u

-- a transaction that is given up: the copies of pages and what is stored stay
pub record IsGivenUp (t : TxId) (w : HomeWork) (x : Closed) : Type 0 where
  pub home : IsWithoutTx t w.home x.work.home
  pub copies : SameCopies w.home x.work.home
  pub pages : x.work.pages ≡ w.pages

abbrev pub AbortIsSeen : Type 0
AbortIsSeen = (t : TxId) (w : HomeWork) → IsHome w.home → is_open w.home.txs t ≡ true → IsGivenUp t w (abort t w)

-- the copy that a commit leaves of a page: that of its private copy at the next version, where the transaction holds
-- the page exclusively; it is dirty where the page is the node's own
abbrev pub committed_copy : HomeState → TxId → ℕ → Option Copy
committed_copy h t q =
    pick (is_exclusive_lock (held_by h.txs t q)) (published (is_own_lock (held_by h.txs t q)) (private_bytes h.pool t q) (copy_at h.pool q))
    (copy_at h.pool q)

-- a transaction that is committed
pub record IsCommitted (t : TxId) (w : HomeWork) (x : Closed) : Type 0 where
  pub home : IsWithoutTx t w.home x.work.home
  pub copies : (q : ℕ) → copy_at x.work.home.pool q ≡ committed_copy w.home t q
  pub pages : x.work.pages ≡ w.pages

abbrev pub CommitIsSeen : Type 0
CommitIsSeen =
    (t : TxId) (w : HomeWork) → IsHome w.home → is_open w.home.txs t ≡ true → pending_of w.home.txs t ≡ None → IsCommitted t w (commit t w)

-- A change of a peer: it goes into the slot of its page, for which copies that no transaction uses may have been let
-- go; or it is stored at once, where the page has no slot.
pub data HasChange (p : ℕ) (c : Change) (w x : HomeWork) : Type 0 where
  kept : (m : HomeWork) → LetsGo p w m → SameBesideCopies m.home x.home
      → ((q : ℕ) → copy_at x.home.pool q ≡ pick (p == q) (Some (dirty_copy c)) (copy_at m.home.pool q)) → x.pages ≡ m.pages → HasChange p c w x
  stored : has_slot w.home.pool p ≡ false → x.home ≡ w.home → x.pages ≡ slice_set w.pages p (stored_bytes p (stored_copy (dirty_copy c))) → HasChange p c w x

abbrev pub ChangeIsSeen : Type 0
ChangeIsSeen = (p : ℕ) (c : Change) (w : HomeWork) → IsHome w.home → HasChange p c w (put_change p c w)

-- all locks of a partition's pages have a kind
pub record HasKinds (q : ℕ) (k : Kind) (h g : HomeState) : Type 0 where
  pub life : SameLife h g
  pub held : (u : TxId) (p : ℕ) → held_by g.txs u p ≡ pick (partition h.config p == q) (option_map (of_kind k) (held_by h.txs u p)) (held_by h.txs u p)
  pub waits : (u : TxId) → pending_of g.txs u ≡ pending_of h.txs u
  pub privates : SamePrivates h g

-- a partition that the node gets: its locks are own ones, and the rights on its pages are spent
pub record IsTakenOver (q : ℕ) (h g : HomeState) : Type 0 where
  pub locks : HasKinds q kind.Own h g
  pub rights : (p : ℕ) → right_on g.shelf p ≡ pick (partition h.config p == q) None (right_on h.shelf p)
  pub copies : SameCopies h g

abbrev pub TakingOverIsSeen : Type 0
TakingOverIsSeen = (q : ℕ) (h : HomeState) → IsTakenOver q h (take_over q h)

-- a partition that leaves the node: its locks are registered ones, and its copies are clean
pub record HasGivenUp (q : ℕ) (h g : HomeState) : Type 0 where
  pub locks : HasKinds q kind.Registered h g
  pub rights : SameRights h g
  pub copies : (p : ℕ) → copy_at g.pool p ≡ pick (partition h.config p == q) (cleaned (copy_at h.pool p)) (copy_at h.pool p)

abbrev pub GivingUpIsSeen : Type 0
GivingUpIsSeen = (q : ℕ) (n : NodeState) → HasGivenUp q n.home (give_up q n).home
