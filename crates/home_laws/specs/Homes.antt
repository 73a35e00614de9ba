-- What holds of every home: how its transactions, its rights, its buffer and the written places
-- belong together.
use Rattle.std.specs.Prelude.{◌≡◌, ℕ, ◌+◌, ◌<◌, ◌≤◌, ◌==◌, ◌||◌, ◌&&◌, Bool, true, false, List, [], ◌∷◌, length, Option, Some, None, is_some, IfSome, ⊤}
use Rattle.std.specs.List.{All, filter}
use Rattle.pcl_base.specs.Limits.{Sizes}
use Rattle.pcl_base.specs.declared.tx.TxId.{TxId}
use Rattle.pcl_base.specs.declared.lock.Held.{Held}
use Rattle.pcl_base.specs.declared.lock.Kind.{Kind}
use Rattle.pcl_base.specs.declared.lock.Kind.TheVariants as kind
use Rattle.pcl_base.specs.declared.lock.Pending.{Pending}
use Rattle.node_rules.specs.Words.{covers, is_exclusive, among}
use Rattle.node_rules.specs.OpenTxs.{OpenTx, OpenTxs, lock_on, waits_on, held_by, mode_held, pending_of}
use Rattle.node_rules.specs.Shelf.{right_on, readers_of}
use Rattle.node_rules.specs.BufferRule.{Slot, slot_at, copy_at, has_private, private_bytes, is_kept}
use Rattle.node_rules.specs.NodeState.{HomeState, Run, runs_at}
use Rattle.node_rules.specs.AccessRule.{mode_of_write}
use Rattle.buffer_pool.specs.Buffer.{IsBuffer}

-- whether an open transaction holds a page or waits for it
abbrev pub uses : ℕ → OpenTx → Bool
uses p x = is_some (lock_on x.pages p) || waits_on x.waiting p

-- how many open transactions hold a page or wait for it
abbrev pub users : OpenTxs → ℕ → ℕ
users s p = length (filter (uses p) s.txs)

-- the pins of a slot
abbrev pub pins_of : Option Slot → ℕ
pins_of None = 0
pins_of (Some s) = s.pins

-- serials rise from behind `low`, and the last of them is at most `last`
abbrev pub AreSerials : ℕ → ℕ → List OpenTx → Type 0
AreSerials low last [] = low ≤ last
AreSerials low last (x ∷ xs) = (low < x.serial) × AreSerials x.serial last xs

-- whether a lock is an exclusive one
abbrev pub is_exclusive_lock : Option Held → Bool
is_exclusive_lock None = false
is_exclusive_lock (Some h) = is_exclusive h.mode

-- whether an access is a write of a page
abbrev pub is_write_of : Option Pending → ℕ → Bool
is_write_of None p = false
is_write_of (Some w) p = w.page == p && is_some w.write

-- whether a lock is held under a right
abbrev pub is_right_kind : Kind → Bool
is_right_kind kind.Right = true
is_right_kind _ = false

-- the same of a lock that may be missing
abbrev pub is_right_lock : Option Held → Bool
is_right_lock None = false
is_right_lock (Some h) = is_right_kind h.kind

-- the bytes of a write are some, and end within the page
abbrev pub IsWithin : ℕ → ℕ × List ℕ → Type 0
IsWithin size write = (1 ≤ length write.1) × (write.0 + length write.1 ≤ size)

-- an access that may wait: its page is one of the database, its mode is that of a read or of a write,
-- and a write lies within the page
pub record IsAccess (c : Sizes) (w : Pending) : Type 0 where
  pub page : w.page < c.pages
  pub mode : w.mode ≡ mode_of_write w.write
  pub inside : IfSome w.write (IsWithin c.size)

-- runs begin at `low` or later, aren't empty, rise apart from one another, and end within a page
abbrev pub AreRuns : ℕ → ℕ → List Run → Type 0
AreRuns size low [] = ⊤
AreRuns size low (r ∷ rs) = (low ≤ r.from) × (r.from < r.to) × (r.to ≤ size) × AreRuns size (r.to + 1) rs

-- the runs of a page: some where it was written, else none
abbrev pub AreWrittenRuns : ℕ → Bool → List Run → Type 0
AreWrittenRuns size true [] = ⊥
AreWrittenRuns size true (r ∷ rs) = AreRuns size 0 (r ∷ rs)
AreWrittenRuns size false runs = runs ≡ []

-- no lock is on the page of a later one
abbrev pub AreOnce : List Held → Type 0
AreOnce [] = ⊤
AreOnce (h ∷ hs) = (lock_on hs h.page ≡ None) × AreOnce hs

-- a node's number is below N; the open transactions are at most 1,024, their serials rise, each holds
-- a page once, and they were begun after the node's birth
pub record AreOpen (c : Sizes) (s : OpenTxs) : Type 0 where
  pub node : s.node < c.nodes
  pub few : length s.txs ≤ 1024
  pub serials : AreSerials 0 s.last s.txs
  pub once : All (λ x. AreOnce x.pages) s.txs
  pub born : 1 ≤ length s.txs → 1 ≤ s.born

-- what holds of every home
pub record IsHome (h : HomeState) : Type 0 where
  pub buffer : IsBuffer h.pool
  pub sizes : (h.pool.frames ≡ h.config.frames) × (h.pool.size ≡ h.config.size)
  pub txs : AreOpen h.config h.txs
  -- a slot is pinned once for each open transaction that holds its page or waits for it
  pub pins : (p : ℕ) → pins_of (slot_at h.pool p) ≡ users h.txs p
  -- a place without content has a pin
  pub kept : All (λ s. is_kept s ≡ true) h.pool.slots
  -- each slot is of a page of the database
  pub below : All (λ s. s.page < h.config.pages) h.pool.slots
  -- a page that is held is one of the database and has a copy
  pub held : (t : TxId) (p : ℕ) → is_some (held_by h.txs t p) ≡ true → (p < h.config.pages) × (is_some (copy_at h.pool p) ≡ true)
  -- an access that waits is one that may, and isn't allowed by the lock that is held
  pub waits : (t : TxId) → IfSome (pending_of h.txs t) (IsAccess h.config)
  pub needed : (t : TxId) → IfSome (pending_of h.txs t) (λ w. covers (mode_held (held_by h.txs t w.page)) w.mode ≡ false)
  -- there is a private copy where the page is held exclusively or waited for with a write; it has
  -- content, and places are noted as written, where the page is held exclusively
  pub privates : (t : TxId) (p : ℕ) → has_private h.pool t p ≡ (is_exclusive_lock (held_by h.txs t p) || is_write_of (pending_of h.txs t) p)
  pub filled : (t : TxId) (p : ℕ) → is_some (private_bytes h.pool t p) ≡ is_exclusive_lock (held_by h.txs t p)
  pub runs : (t : TxId) (p : ℕ) → AreWrittenRuns h.config.size (is_exclusive_lock (held_by h.txs t p)) (runs_at h.written t p)
  -- who reads under a right holds the page, and who holds a page under a right reads under it
  pub readers : (p : ℕ) → All (λ t. is_some (held_by h.txs t p) ≡ true) (readers_of (right_on h.shelf p))
  pub reading : (t : TxId) (p : ℕ) → is_right_lock (held_by h.txs t p) ≡ true → among (readers_of (right_on h.shelf p)) t ≡ true
