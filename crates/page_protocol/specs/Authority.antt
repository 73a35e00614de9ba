-- What the authority of the page does: grants, rights and their revocation, releases.
use Rattle.std.specs.Prelude.{ℕ, ◌≤◌, true, ◌&&◌, eqb, ◌≡◌, ◌≢◌, ◌⊎◌, List, [], ◌∷◌, Option, Some, None}
use Rattle.pcl_base.specs.declared.tx.TxId.{TxId}
use Rattle.pcl_base.specs.declared.tx.Mode.{Mode}
use Rattle.pcl_base.specs.declared.tx.Mode.TheVariants.{Shared, Exclusive}
use Rattle.page_protocol.specs.State.{pick, upd, updn, set_at, has, Word, Current, Image, OnDisk, NoRight, Flying, Returning, Home, Fresh, Asking, Holding, HoldingAsks, Reading, ReadingAsks, Ended, Gone, Lock, Free, Registered, UnderRight, lock_of, Page, version_of}
use Rattle.page_protocol.specs.Bytes.{Access}

-- A grant without a right: the transaction becomes a holder.
unfoldable pub granting : Page → TxId → Mode → Word → Page
granting a t m w =
    record a {
      listed = set_at a.listed t a.era (Some m);
      sent = record { tx = t; mode = m; version = a.entry; word = w } ∷ a.sent;
    }

-- No transaction holds the page exclusively in the table that serves.
abbrev pub NobodyWrites : Page → Type 0
NobodyWrites a = (t : TxId) → a.listed t a.era ≢ Some Exclusive

-- For an exclusive grant nobody else holds the page and no right is out.
abbrev pub Alone : Page → TxId → Mode → Type 0
Alone a t Shared = Unit {0}
Alone a t Exclusive = ((u : TxId) → (a.listed u a.era ≡ None) ⊎ (u ≡ t)) × ((n : ℕ) → a.right n ≡ NoRight)

-- The version that a waiting transaction told with its request.
abbrev pub Told : ℕ → Home → Type 0
Told v Fresh = Unit {0}
Told v (Asking m h) = h ≡ Some v
Told v (Holding m) = Unit {0}
Told v HoldingAsks = Unit {0}
Told v Reading = Unit {0}
Told v ReadingAsks = Unit {0}
Told v (Ended c e) = Unit {0}
Told v Gone = Unit {0}

-- The copy rule: `Current` where the home told the entry's version, `Image` where the owner's copy
-- has it, `OnDisk` where it hasn't.
abbrev pub WordFits : Page → TxId → Word → Type 0
WordFits a t Current = a.reached t.node ≤ a.era → Told a.entry (a.home t)
WordFits a t (Image bytes) = a.slot a.owner ≡ Some (record { version = a.entry; bytes = bytes })
WordFits a t OnDisk = version_of (a.slot a.owner) ≢ Some a.entry

-- A grant with a right: the node is listed, no holder is added.
unfoldable pub giving : Page → TxId → Word → Page
giving a t w =
    record a { right = updn a.right t.node (Flying (record { tx = t; mode = Shared; version = a.entry; word = w })) }

-- The readers under a right have registered locks from now on.
abbrev pub registered : Home → Home
registered Fresh = Fresh
registered (Asking m h) = Asking m h
registered (Holding m) = Holding m
registered HoldingAsks = HoldingAsks
registered Reading = Holding Shared
registered ReadingAsks = HoldingAsks
registered (Ended c e) = Ended c e
registered Gone = Gone

-- A node spends its right: a revocation came, or it installs an era that it owns. The tables of the
-- eras below `upto` still list the node.
unfoldable pub spending : Page → ℕ → ℕ → List TxId → Page
spending a n upto readers =
    record a {
      right = updn a.right n (Returning upto readers);
      home = λ t. pick (eqb t.node n) (registered (a.home t)) (a.home t);
    }

-- The transaction reads under its node's right.
abbrev pub IsReading : Home → Type 0
IsReading Fresh = ⊥
IsReading (Asking m h) = ⊥
IsReading (Holding m) = ⊥
IsReading HoldingAsks = ⊥
IsReading Reading = Unit {0}
IsReading ReadingAsks = Unit {0}
IsReading (Ended c e) = ⊥
IsReading Gone = ⊥

-- Each reader under the node's right is named.
abbrev pub NamesAll : Page → ℕ → List TxId → Type 0
NamesAll a n readers = (t : TxId) → t.node ≡ n → IsReading (a.home t) → has t readers ≡ true

-- A lock that was used: its transaction has accessed the page.
abbrev pub LockUsed : Lock → List Access → Type 0
LockUsed Free script = Unit {0}
LockUsed (Registered m) script = script ≢ []
LockUsed UnderRight script = script ≢ []

-- Each lock at the node was used.
abbrev pub HaveUsed : Page → ℕ → Type 0
HaveUsed a n = (t : TxId) → t.node ≡ n → LockUsed (lock_of (a.home t)) (a.script t)

-- Each named transaction of the node has accessed the page.
abbrev pub NamesUsed : Page → ℕ → List TxId → Type 0
NamesUsed a n readers = (t : TxId) → t.node ≡ n → has t readers ≡ true → a.script t ≢ []

-- A named reader becomes a holder where it isn't one.
abbrev pub with_shared : Option Mode → Option Mode
with_shared None = Some Shared
with_shared (Some m) = Some m

-- The answer to a revocation comes: the node leaves the rights, the named readers become holders.
unfoldable pub returning : Page → ℕ → List TxId → Page
returning a n readers =
    record a {
      right = updn a.right n NoRight;
      listed = λ t e. pick (has t readers && eqb e a.era) (with_shared (a.listed t e)) (a.listed t e);
    }

-- A right that is no more leaves the table.
unfoldable pub dropping : Page → ℕ → Page
dropping a n = record a { right = updn a.right n NoRight }

-- A release comes to the table of its era, and no change is taken.
unfoldable pub releasing : Page → TxId → ℕ → Page
releasing a t e = record a { listed = set_at a.listed t e None; home = upd a.home t Gone }

-- A release with the next version comes, and the change goes into the owner's slot.
unfoldable pub releasing_change : Page → TxId → ℕ → Page
releasing_change a t v =
    record a {
      listed = set_at a.listed t a.era None;
      home = upd a.home t Gone;
      entry = v;
      slot = updn a.slot a.owner (Some (record { version = v; bytes = a.hist v }));
      dirty = true;
    }

-- A release with the next version comes, and the change goes to disk at once.
unfoldable pub releasing_to_disk : Page → TxId → ℕ → Page
releasing_to_disk a t v =
    record a {
      listed = set_at a.listed t a.era None;
      home = upd a.home t Gone;
      entry = v;
      disk = record { version = v; bytes = a.hist v };
    }

-- A release that nobody will take.
unfoldable pub losing : Page → TxId → Page
losing a t = record a { home = upd a.home t Gone }
