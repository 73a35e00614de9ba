-- What holds of one page after every step.
use Rattle.std.specs.Prelude.{ℕ, ◌<◌, ◌≤◌, Bool, true, ◌≡◌, ◌⊎◌, List, [], Option, Some, None}
use Rattle.std.proofs.Common.{suc}
use Rattle.pcl_base.specs.declared.tx.TxId.{TxId}
use Rattle.pcl_base.specs.declared.tx.Mode.{Mode}
use Rattle.pcl_base.specs.declared.tx.Mode.TheVariants.{Shared, Exclusive}
use Rattle.page_protocol.specs.State.{has, Word, Sent, Right, NoRight, Flying, Shelf, Returning, Dead, Home, Fresh, Asking, Holding, HoldingAsks, Reading, ReadingAsks, Ended, Gone, Lock, Free, Registered, UnderRight, lock_of, InEra, Page, current, In, IsFresh, IsAsking, Lives, IsPast, IsShelf, told_copy}
use Rattle.page_protocol.specs.Bytes.{Copy, Ranges, put_all, Access, Leaves, Replays}

-- The table covers a lock in this mode.
abbrev pub Covers : Option Mode → Mode → Type 0
Covers None m = ⊥
Covers (Some Shared) Shared = Unit {0}
Covers (Some Shared) Exclusive = ⊥
Covers (Some Exclusive) m = Unit {0}

-- The right was given back for the eras from `upto` on, and the transaction is one of its readers:
-- it is no holder in the table of a lower era yet, and the node is still listed there.
abbrev pub Names : Right → ℕ → TxId → Type 0
Names NoRight e t = ⊥
Names (Flying g) e t = ⊥
Names (Shelf v) e t = ⊥
Names (Returning upto readers) e t = (e < upto) × (has t readers ≡ true)
Names Dead e t = ⊥

-- The table of era e knows of a lock of t: as a holder, or, shared, as a reader named by an answer.
abbrev pub Covered : Option Mode → Right → ℕ → TxId → Mode → Type 0
Covered listed right e t Shared = Covers listed Shared ⊎ Names right e t
Covered listed right e t Exclusive = listed ≡ Some Exclusive

-- The lock that a transaction has at home is known to the table of era e; one under a right needs the right.
abbrev pub Locked : Option Mode → Right → ℕ → TxId → Lock → Type 0
Locked listed right e t Free = Unit {0}
Locked listed right e t (Registered m) = Covered listed right e t m
Locked listed right e t UnderRight = IsShelf right

-- An ended transaction is listed in no era after the one to which its release goes, and with a
-- change it is the exclusive holder there.
abbrev pub EndsOk : ℕ → ℕ → (ℕ → Option Mode) → Home → Type 0
EndsOk era reached listed Fresh = Unit {0}
EndsOk era reached listed (Asking m h) = Unit {0}
EndsOk era reached listed (Holding m) = Unit {0}
EndsOk era reached listed HoldingAsks = Unit {0}
EndsOk era reached listed Reading = Unit {0}
EndsOk era reached listed ReadingAsks = Unit {0}
EndsOk era reached listed (Ended None e) = (e ≤ reached) × ((f : ℕ) → era < f → e < f → listed f ≡ None)
EndsOk era reached listed (Ended (Some v) e) =
    (e ≤ reached) × ((f : ℕ) → era < f → e < f → listed f ≡ None) × (era ≤ e → listed e ≡ Some Exclusive)
EndsOk era reached listed Gone = Unit {0}

-- Locks and rights, in the table of the authority and in what later eras list.
pub record Locks (era : ℕ) (reached : ℕ → ℕ) (listed : TxId → ℕ → Option Mode) (right : ℕ → Right) (home : TxId → Home) : Type 0 where
  -- one writer, or readers alone
  pub exclusive : (t u : TxId) → listed t era ≡ Some Exclusive → (listed u era ≡ None) ⊎ (u ≡ t)
  -- beside a writer no right is out
  pub no_rights : (t : TxId) (n : ℕ) → listed t era ≡ Some Exclusive → right n ≡ NoRight
  -- what a later era lists, each earlier one knows
  pub chain : (t : TxId) (e f : ℕ) (m : Mode) → era ≤ e → e < f → listed t f ≡ Some m → Covered (listed t e) (right t.node) e t m
  -- what a home has, each era that its node has reached knows
  pub locks : (t : TxId) (e : ℕ) → era ≤ e → e ≤ reached t.node → Locked (listed t e) (right t.node) e t (lock_of (home t))
  -- who has a lock has reached the era that serves
  pub in_era : (t : TxId) → InEra (lock_of (home t)) era (reached t.node)
  -- so has a node with a right on its shelf
  pub shelves : (n : ℕ) → IsShelf (right n) → era ≤ reached n
  -- a later era lists nothing of a node that hasn't reached it
  pub unlisted : (t : TxId) (e : ℕ) → era < e → reached t.node < e → listed t e ≡ None
  -- what an ended transaction leaves
  pub ends : (t : TxId) → EndsOk era (reached t.node) (listed t) (home t)

-- A right has the current version, and a grant that brings one brings the current copy to a
-- transaction that waits for it.
abbrev pub RightOk : ℕ → Option Copy → Copy → Copy → ℕ → (TxId → Home) → ℕ → Right → Type 0
RightOk era slot disk cur reached home n NoRight = Unit {0}
RightOk era slot disk cur reached home n (Flying g) =
    (g.tx.node ≡ n) × (IsFresh (home g.tx) → ⊥) × (g.version ≡ cur.version)
    × (reached ≤ era → IsAsking (home g.tx) → told_copy g.word g.version slot disk ≡ Some cur)
RightOk era slot disk cur reached home n (Shelf v) = v ≡ cur.version
RightOk era slot disk cur reached home n (Returning upto readers) = Unit {0}
RightOk era slot disk cur reached home n Dead = Unit {0}

-- A grant counts while its transaction lives and its node hasn't left the era.
pub record Counts (mode : Mode) (version : ℕ) (word : Word) (listed : Option Mode) (slot : Option Copy) (disk cur : Copy) : Type 0 where
  pub covered : Covers listed mode
  pub version_now : version ≡ cur.version
  pub copy : told_copy word version slot disk ≡ Some cur

-- Grants: one that counts has its holder, the current version, and brings the current copy.
pub record Grants (era : ℕ) (reached : ℕ → ℕ) (slot : ℕ → Option Copy) (disk cur : Copy) (listed : TxId → ℕ → Option Mode) (right : ℕ → Right) (home : TxId → Home) (sent : List Sent) : Type 0 where
  pub grants : (g : Sent) → In g sent → reached g.tx.node ≤ era → Lives (home g.tx) → Counts g.mode g.version g.word (listed g.tx era) (slot g.tx.node) disk cur
  -- a grant was sent to one that asked
  pub asked : (g : Sent) → In g sent → IsFresh (home g.tx) → ⊥
  pub rights : (n : ℕ) → RightOk era (slot n) disk cur (reached n) home n (right n)

-- The version of a release on its way to the authority or a later era is the current one.
abbrev pub ChangeIs : ℕ → ℕ → Home → Type 0
ChangeIs era now Fresh = Unit {0}
ChangeIs era now (Asking m h) = Unit {0}
ChangeIs era now (Holding m) = Unit {0}
ChangeIs era now HoldingAsks = Unit {0}
ChangeIs era now Reading = Unit {0}
ChangeIs era now ReadingAsks = Unit {0}
ChangeIs era now (Ended None e) = Unit {0}
ChangeIs era now (Ended (Some v) e) = era ≤ e → v ≡ now
ChangeIs era now Gone = Unit {0}

-- The entry lags behind by one: its writer is still the exclusive holder, and its log has the change.
pub record Lags (era now entry : ℕ) (log : ℕ → ℕ → Option Ranges) (listed : TxId → ℕ → Option Mode) (home : TxId → Home) : Type 0 where
  pub writer : TxId
  pub holds : listed writer era ≡ Some Exclusive
  pub is_past : IsPast (home writer)
  pub by_one : suc entry ≡ now
  pub change : Ranges
  pub logged : log writer.node now ≡ Some change

-- The entry: its version is the current one, or lags behind by one.
pub record Entry (era : ℕ) (served : Bool) (now entry : ℕ) (log : ℕ → ℕ → Option Ranges) (listed : TxId → ℕ → Option Mode) (home : TxId → Home) : Type 0 where
  pub version : served ≡ true → (entry ≡ now) ⊎ Lags era now entry log listed home
  pub changes : (t : TxId) → ChangeIs era now (home t)

-- A copy has the bytes of its version.
pub record IsCopy (now : ℕ) (hist : ℕ → List ℕ) (c : Copy) : Type 0 where
  pub old : c.version ≤ now
  pub same : c.bytes ≡ hist c.version

-- A record changes the bytes of the version before into those of its own.
pub record IsRecord (now : ℕ) (hist : ℕ → List ℕ) (v : ℕ) (ranges : Ranges) : Type 0 where
  pub old : v < now
  pub changes : put_all ranges (hist v) ≡ hist (suc v)

-- Some log has the record of a version.
pub record Logged (log : ℕ → ℕ → Option Ranges) (v : ℕ) : Type 0 where
  pub node : ℕ
  pub ranges : Ranges
  pub there : log node v ≡ Some ranges

-- Disk, slots and logs: bytes go by versions, and above the disk's version each has exactly one record.
pub record Stores (now : ℕ) (hist : ℕ → List ℕ) (disk : Copy) (slot : ℕ → Option Copy) (log : ℕ → ℕ → Option Ranges) : Type 0 where
  pub disk_is : IsCopy now hist disk
  pub slots_are : (n : ℕ) (c : Copy) → slot n ≡ Some c → IsCopy now hist c
  pub records : (n v : ℕ) (ranges : Ranges) → log n (suc v) ≡ Some ranges → IsRecord now hist v ranges
  pub once : (n m v : ℕ) (r s : Ranges) → log n v ≡ Some r → log m v ≡ Some s → n ≡ m
  pub reach : (v : ℕ) → disk.version ≤ v → v < now → Logged log (suc v)

-- The owner's slot has this version at least.
pub record SlotHas (slot : Option Copy) (v : ℕ) : Type 0 where
  pub copy : Copy
  pub there : slot ≡ Some copy
  pub enough : v ≤ copy.version

-- The authority's page: the disk isn't ahead of the entry, and the entry's version is on disk or in
-- the owner's dirty copy, which isn't older than the disk.
pub record Kept (served : Bool) (dirty : Bool) (entry : ℕ) (disk : Copy) (slot : Option Copy) : Type 0 where
  pub disk_behind : served ≡ true → disk.version ≤ entry
  pub in_reach : served ≡ true → (entry ≤ disk.version) ⊎ ((dirty ≡ true) × SlotHas slot entry)
  pub dirty_served : dirty ≡ true → served ≡ true
  pub dirty_new : dirty ≡ true → SlotHas slot disk.version

-- Who holds the page has the current copy; who waits for it, at least the one that it told.
abbrev pub SlotOk : Copy → Option Copy → Home → Type 0
SlotOk cur slot Fresh = Unit {0}
SlotOk cur slot (Asking m None) = Unit {0}
SlotOk cur slot (Asking m (Some h)) = SlotHas slot h
SlotOk cur slot (Holding m) = slot ≡ Some cur
SlotOk cur slot HoldingAsks = slot ≡ Some cur
SlotOk cur slot Reading = slot ≡ Some cur
SlotOk cur slot ReadingAsks = slot ≡ Some cur
SlotOk cur slot (Ended c e) = Unit {0}
SlotOk cur slot Gone = Unit {0}

-- The granted accesses of a transaction, run from the current page, meet no read that differs; a
-- writer has what they leave in its private copy.
abbrev pub ScriptOk : List ℕ → List Access → List ℕ → Home → Type 0
ScriptOk page script image Fresh = script ≡ []
ScriptOk page script image (Asking m h) = script ≡ []
ScriptOk page script image (Holding Shared) = Leaves script page page
ScriptOk page script image (Holding Exclusive) = Leaves script page image
ScriptOk page script image HoldingAsks = Leaves script page page
ScriptOk page script image Reading = Leaves script page page
ScriptOk page script image ReadingAsks = Leaves script page page
ScriptOk page script image (Ended c e) = Unit {0}
ScriptOk page script image Gone = Unit {0}

-- Accesses: what transactions saw and wrote fits the current page, and the committed scripts replay to it.
pub record Accesses (blank : List ℕ) (cur : Copy) (slot : ℕ → Option Copy) (home : TxId → Home) (script : TxId → List Access) (image : TxId → List ℕ) (committed : List (List Access)) : Type 0 where
  pub slots : (t : TxId) → SlotOk cur (slot t.node) (home t)
  pub scripts : (t : TxId) → ScriptOk cur.bytes (script t) (image t) (home t)
  pub serial : Replays committed (record { version = 0; bytes = blank }) cur

-- The invariant of one page.
pub record Inv (blank : List ℕ) (a : Page) : Type 0 where
  pub locks_hold : Locks a.era a.reached a.listed a.right a.home
  pub grants_hold : Grants a.era a.reached a.slot a.disk (current a) a.listed a.right a.home a.sent
  pub entry_holds : Entry a.era a.served a.now a.entry a.log a.listed a.home
  pub stores_hold : Stores a.now a.hist a.disk a.slot a.log
  pub kept_holds : Kept a.served a.dirty a.entry a.disk (a.slot a.owner)
  pub accesses_hold : Accesses blank (current a) a.slot a.home a.script a.image a.committed
