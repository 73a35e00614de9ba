-- The laws of what begins and ends at a home: each change keeps what holds of every home.
use Rattle.std.specs.Prelude.{◌≡◌, ℕ, ◌<◌, ◌≤◌, ◌+◌, true, false, List, [], ◌∷◌, length, None, ⊤}
use Rattle.pcl_base.specs.declared.tx.TxId.{TxId}
use Rattle.pcl_base.specs.declared.lock.Kind.TheVariants as kind
use Rattle.pcl_base.specs.declared.message.Change.{Change}
use Rattle.text_rules.specs.LogRecord.{IsRecord}
use Rattle.node_rules.specs.OpenTxs.{is_open, pending_of, begin}
use Rattle.node_rules.specs.NodeState.{HomeState, NodeState}
use Rattle.node_rules.specs.BufferRule.{pinned, clean, evict}
use Rattle.node_rules.specs.AccessRule.{on_pool}
use Rattle.node_rules.specs.OwnerRule.{put_change}
use Rattle.node_rules.specs.Work.{HomeWork, with_pool, write_back}
use Rattle.node_rules.specs.EndRule.{abort, commit, commit_record, pages_written}
use Rattle.node_rules.specs.InstallRule.{all_kinds, clean_slots, take_over, give_up, born_at}
use Rattle.home_laws.specs.Homes.{IsHome}

-- pages rise by number, from `low` on
abbrev pub AreRising : ℕ → List ℕ → Type 0
AreRising low [] = ⊤
AreRising low (p ∷ ps) = (low ≤ p) × AreRising (p + 1) ps

-- a transaction that begins, where fewer than 1,024 are open and the node was born
abbrev pub BeginIsSound : Type 0
BeginIsSound = (h : HomeState) → IsHome h → length h.txs.txs < 1024 → 1 ≤ h.txs.born → IsHome (record h { txs = begin h.txs })

-- a transaction that is given up
abbrev pub AbortIsSound : Type 0
AbortIsSound = (t : TxId) (w : HomeWork) → IsHome w.home → is_open w.home.txs t ≡ true → IsHome (abort t w).work.home

-- a transaction that doesn't wait is committed
abbrev pub CommitIsSound : Type 0
CommitIsSound =
    (t : TxId) (w : HomeWork) → IsHome w.home → is_open w.home.txs t ≡ true → pending_of w.home.txs t ≡ None → IsHome (commit t w).work.home

-- the record of a commit that wrote has bytes
abbrev pub RecordIsSound : Type 0
RecordIsSound =
    (h : HomeState) (t : TxId) → IsHome h → is_open h.txs t ≡ true → pending_of h.txs t ≡ None → 1 ≤ length (pages_written h t) → IsRecord h.config (commit_record h t)

-- a dirty copy is written and stays
abbrev pub WriteBackIsSound : Type 0
WriteBackIsSound = (p : ℕ) (w : HomeWork) → IsHome w.home → IsHome (write_back p w).home

-- a copy without a pin is written where it is dirty, and leaves
abbrev pub EvictIsSound : Type 0
EvictIsSound =
    (p : ℕ) (w : HomeWork) → IsHome w.home → pinned w.home.pool p ≡ false → IsHome (on_pool (λ b. evict b p) (write_back p w)).home

-- a copy becomes clean, where there is one
abbrev pub CleanIsSound : Type 0
CleanIsSound = (p : ℕ) (h : HomeState) → IsHome h → IsHome (with_pool h (clean h.pool p))

-- a change of a page of the database, with an image of its size, goes into the buffer or to disk
abbrev pub PutChangeIsSound : Type 0
PutChangeIsSound =
    (p : ℕ) (c : Change) (w : HomeWork) → IsHome w.home → p < w.home.config.pages → length c.image ≡ w.home.config.size → IsHome (put_change p c w).home

-- a partition that the node gets: its locks become own locks, and its rights are spent
abbrev pub TakeOverIsSound : Type 0
TakeOverIsSound = (q : ℕ) (h : HomeState) → IsHome h → IsHome (take_over q h)

-- the home of a node that gives up a partition: its locks are registered ones, and its copies clean
abbrev pub given_up : ℕ → HomeState → HomeState
given_up q h =
    record (all_kinds q kind.Registered h) { pool = record (h.pool) { slots = clean_slots h.config q h.pool.slots } }

-- a partition that the node gives up
abbrev pub GiveUpIsSound : Type 0
GiveUpIsSound = (q : ℕ) (n : NodeState) → IsHome n.home → ((give_up q n).home ≡ given_up q n.home) × IsHome (give_up q n).home

-- the birth of a node where no transaction is open
abbrev pub BornAtIsSound : Type 0
BornAtIsSound = (e : ℕ) (n : NodeState) → IsHome n.home → length n.home.txs.txs ≡ 0 → IsHome (born_at e n).home
