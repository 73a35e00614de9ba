-- What is promised of each page that a run leads to.
use Rattle.std.specs.Prelude.{ℕ, ◌<◌, ◌≤◌, true, ◌≡◌, ◌≢◌, ◌⊎◌, List, [], ◌++◌, Option, Some, None}
use Rattle.std.proofs.Common.{suc}
use Rattle.pcl_base.specs.declared.tx.TxId.{TxId}
use Rattle.pcl_base.specs.declared.tx.Mode.TheVariants.{Exclusive}
use Rattle.page_protocol.specs.Invariant.{Logged, Inv}
use Rattle.page_protocol.specs.Homes.{Waits, Takes, seen}
use Rattle.page_protocol.specs.State.{has, Sent, Shelf, Returning, Holding, Free, lock_of, Page, current, In, IsGranted, IsShelf, version_of, told_copy}
use Rattle.page_protocol.specs.Steps.{Step, Reached}
use Rattle.page_protocol.specs.Bytes.{Copy, Ranges, put_all, Access, Leaves, Replays}

-- Redo of the page: from the page on disk, record after record, whichever log has the next.
pub data Redo (disk : Copy) (log : ℕ → ℕ → Option Ranges) : Copy → Type 0 where
  stored : Redo disk log disk
  replayed : (c : Copy) (n : ℕ) (ranges : Ranges) → Redo disk log c → log n (suc c.version) ≡ Some ranges → Redo disk log (record { version = suc c.version; bytes = put_all ranges c.bytes })

-- Every step keeps the invariant, whatever the page was before.
abbrev pub StepsKeep : Type 0
StepsKeep = (blank : List ℕ) (a b : Page) → Step a b → Inv blank a → Inv blank b

-- The opening state has the invariant, so each page that a run leads to has it.
abbrev pub RunsKeep : Type 0
RunsKeep = (blank : List ℕ) (a : Page) → Reached blank a → Inv blank a

-- Serial: the committed scripts, run one after another on one copy, meet no read that differs, and
-- leave the current version and bytes.
abbrev pub IsSerial : List ℕ → Page → Type 0
IsSerial blank a = Replays a.committed (record { version = 0; bytes = blank }) (current a)

-- Fresh: where a transaction may access the page, its node has the current version, and what a read
-- answers and a write changes is the current page with the transaction's own accesses run on it.
abbrev pub IsFreshAt : Page → TxId → Type 0
IsFreshAt a t = IsGranted (a.home t) → (version_of (a.slot t.node) ≡ Some a.now) × Leaves (a.script t) (a.hist a.now) (seen a t)

-- Durable: redo can reach the current page, where it ends it has reached it, and it can't pass it.
abbrev pub IsDurable : Page → Type 0
IsDurable a =
    Redo a.disk a.log (current a)
    × ((c : Copy) → Redo a.disk a.log c → ((n : ℕ) → a.log n (suc c.version) ≡ None) → c ≡ current a)
    × ((n : ℕ) → a.log n (suc a.now) ≡ None)

-- Each version above the disk's, up to the current one, has its record in exactly one log.
abbrev pub IsLoggedOnce : Page → Type 0
IsLoggedOnce a =
    (v : ℕ) → a.disk.version ≤ v → v < a.now → (l : Logged a.log (suc v)) × ((m : ℕ) (r : Ranges) → a.log m (suc v) ≡ Some r → m ≡ l.node)

-- One writer, or readers alone: beside a transaction that holds the page exclusively at its home, no
-- other has a lock at any home, and no right is on any shelf.
abbrev pub IsAlone : Page → TxId → Type 0
IsAlone a t = a.home t ≡ Holding Exclusive → ((u : TxId) → (lock_of (a.home u) ≡ Free) ⊎ (u ≡ t)) × ((n : ℕ) → IsShelf (a.right n) → ⊥)

-- A grant that would be taken brings the current version and the current bytes, so the page that it
-- says is on disk is there.
abbrev pub BringsCurrent : Page → Sent → Type 0
BringsCurrent a g =
    In g a.sent → Takes a g.tx.node → Waits (a.home g.tx) g.mode
    → (g.version ≡ a.now) × (told_copy g.word g.version (a.slot g.tx.node) a.disk ≡ Some (current a))

-- A right on a shelf has the current version.
abbrev pub RightsAreCurrent : Page → Type 0
RightsAreCurrent a = (n v : ℕ) → a.right n ≡ Shelf v → v ≡ a.now

-- A right that was given back was given back for no era above the one after that which its node has reached.
abbrev pub IsGivenBackInTime : Page → Type 0
IsGivenBackInTime a = (n upto : ℕ) (readers : List TxId) → a.right n ≡ Returning upto readers → upto ≤ suc (a.reached n)

-- Whom an era after the serving one lists has accessed the page.
abbrev pub LaterAreUsed : Page → Type 0
LaterAreUsed a = (t : TxId) (f : ℕ) → a.era < f → (a.listed t f ≡ None → ⊥) → a.script t ≢ []

-- Whom an answer to a revocation names has accessed the page.
abbrev pub NamedAreUsed : Page → Type 0
NamedAreUsed a = (n upto : ℕ) (readers : List TxId) → a.right n ≡ Returning upto readers → (t : TxId) → t.node ≡ n → has t readers ≡ true → a.script t ≢ []

-- From one page to a later one the current version doesn't fall, the bytes of a version that there was
-- stay, and so do the commits.
abbrev pub HistoryStays : Page → Page → Type 0
HistoryStays a b = (a.now ≤ b.now) × ((v : ℕ) → v ≤ a.now → b.hist v ≡ a.hist v) × ((later : List (List Access)) × (b.committed ≡ a.committed ++ later))
