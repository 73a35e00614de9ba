-- The state of one page in the whole cluster, and what may be asked of its parts.
use Rattle.std.specs.Prelude.{ℕ, ◌≤◌, Bool, true, false, ◌&&◌, ◌||◌, eqb, ◌≡◌, ◌⊎◌, List, [], ◌∷◌, Option, Some, None}
use Rattle.pcl_base.specs.declared.tx.TxId.{TxId}
use Rattle.pcl_base.specs.declared.tx.Mode.{Mode}
use Rattle.pcl_base.specs.declared.tx.Mode.TheVariants.{Shared}
use Rattle.page_protocol.specs.Bytes.{Copy, Ranges, Access}

-- One of two values.
abbrev pub pick : {X : Type 0} → Bool → X → X → X
pick true x y = x
pick false x y = y

-- Whether two transactions are the same.
abbrev pub same_tx : TxId → TxId → Bool
same_tx t u = eqb t.node u.node && (eqb t.born u.born && eqb t.serial u.serial)

-- A function with one value changed.
abbrev pub upd : {X : Type 0} → (TxId → X) → TxId → X → TxId → X
upd f t x u = pick (same_tx u t) x (f u)

-- The same for nodes and versions.
abbrev pub updn : {X : Type 0} → (ℕ → X) → ℕ → X → ℕ → X
updn f n x m = pick (eqb m n) x (f m)

-- What tables list, with one transaction changed in one era.
abbrev pub set_at : (TxId → ℕ → Option Mode) → TxId → ℕ → Option Mode → TxId → ℕ → Option Mode
set_at listed t e x u f = pick (same_tx u t && eqb f e) x (listed u f)

-- Whether a transaction stands in a list.
abbrev pub has : TxId → List TxId → Bool
has t [] = false
has t (u ∷ us) = same_tx u t || has t us

-- What a grant says of the copy.
pub data Word : Type 0 where
  Current : Word
  Image : (bytes : List ℕ) → Word
  OnDisk : Word

-- A grant that was sent.
pub record Sent : Type 0 where
  pub tx : TxId
  pub mode : Mode
  pub version : ℕ
  pub word : Word

-- Where a node's right stands, seen from node and tables together. A right that was given back at
-- era `upto` stays in the tables of lower eras until the answer comes, with its readers named.
pub data Right : Type 0 where
  NoRight : Right
  Flying : (grant : Sent) → Right
  Shelf : (version : ℕ) → Right
  Returning : (upto : ℕ) (readers : List TxId) → Right
  Dead : Right

-- Where a transaction stands at its home node with this page. `Asking` has the version of the copy
-- that it told; the words with `Asks` hold the page shared and wait for it exclusively; an ended one
-- has the version that its release carries, if any, and the era to which the release goes.
pub data Home : Type 0 where
  Fresh : Home
  Asking : (mode : Mode) (have : Option ℕ) → Home
  Holding : (mode : Mode) → Home
  HoldingAsks : Home
  Reading : Home
  ReadingAsks : Home
  Ended : (change : Option ℕ) (era : ℕ) → Home
  Gone : Home

-- The lock that a transaction has at home.
pub data Lock : Type 0 where
  Free : Lock
  Registered : (mode : Mode) → Lock
  UnderRight : Lock

-- That lock, by where the transaction stands.
abbrev pub lock_of : Home → Lock
lock_of Fresh = Free
lock_of (Asking m h) = Free
lock_of (Holding m) = Registered m
lock_of HoldingAsks = Registered Shared
lock_of Reading = UnderRight
lock_of ReadingAsks = UnderRight
lock_of (Ended c e) = Free
lock_of Gone = Free

-- Who has a lock has reached the era.
abbrev pub InEra : Lock → ℕ → ℕ → Type 0
InEra Free era reached = Unit {0}
InEra (Registered m) era reached = era ≤ reached
InEra UnderRight era reached = era ≤ reached

-- One page: what is true of it, what is stored, what each node and transaction has, and what the
-- authority that serves, or the last one, and later eras have of it.
pub record Page : Type 0 where
  -- the version that the committed transactions leave, the bytes of each version, and the committed scripts
  pub now : ℕ
  pub hist : ℕ → List ℕ
  pub committed : List (List Access)
  -- the page on disk, and the record of each version in each node's log
  pub disk : Copy
  pub log : ℕ → ℕ → Option Ranges
  -- the era that a node has reached, its copy, its right
  pub reached : ℕ → ℕ
  pub slot : ℕ → Option Copy
  pub right : ℕ → Right
  -- where a transaction stands, its granted accesses, its private copy
  pub home : TxId → Home
  pub script : TxId → List Access
  pub image : TxId → List ℕ
  -- the era that serves or served last, its owner, whether it serves, whether the owner's copy is
  -- dirty, the entry's version, and every grant without a right that it sent
  pub era : ℕ
  pub owner : ℕ
  pub served : Bool
  pub dirty : Bool
  pub entry : ℕ
  pub sent : List Sent
  -- the holder's mode of a transaction in the table of each era: for an era that isn't served yet,
  -- what its reports list, less what was released since
  pub listed : TxId → ℕ → Option Mode

-- The current copy of the page.
abbrev pub current : Page → Copy
current a = record { version = a.now; bytes = a.hist a.now }

-- The opening state: version 0 on disk, nothing else anywhere.
abbrev pub opening : List ℕ → ℕ → ℕ → Page
opening blank era owner =
    record {
      now = 0;
      hist = λ v. blank;
      committed = [];
      disk = record { version = 0; bytes = blank };
      log = λ n v. None;
      reached = λ n. era;
      slot = λ n. None;
      right = λ n. NoRight;
      home = λ t. Fresh;
      script = λ t. [];
      image = λ t. [];
      era = era;
      owner = owner;
      served = true;
      dirty = false;
      entry = 0;
      sent = [];
      listed = λ t e. None;
    }

-- A grant was sent.
abbrev pub In : Sent → List Sent → Type 0
In g [] = ⊥
In g (x ∷ xs) = (g ≡ x) ⊎ In g xs

-- The transaction hasn't touched the page yet.
abbrev pub IsFresh : Home → Type 0
IsFresh Fresh = Unit {0}
IsFresh (Asking m h) = ⊥
IsFresh (Holding m) = ⊥
IsFresh HoldingAsks = ⊥
IsFresh Reading = ⊥
IsFresh ReadingAsks = ⊥
IsFresh (Ended c e) = ⊥
IsFresh Gone = ⊥

-- The transaction waits for its first access of the page.
abbrev pub IsAsking : Home → Type 0
IsAsking Fresh = ⊥
IsAsking (Asking m h) = Unit {0}
IsAsking (Holding m) = ⊥
IsAsking HoldingAsks = ⊥
IsAsking Reading = ⊥
IsAsking ReadingAsks = ⊥
IsAsking (Ended c e) = ⊥
IsAsking Gone = ⊥

-- The transaction asked for the page and hasn't ended.
abbrev pub Lives : Home → Type 0
Lives Fresh = ⊥
Lives (Asking m h) = Unit {0}
Lives (Holding m) = Unit {0}
Lives HoldingAsks = Unit {0}
Lives Reading = Unit {0}
Lives ReadingAsks = Unit {0}
Lives (Ended c e) = ⊥
Lives Gone = ⊥

-- The transaction committed a change of the page, or nobody knows it any more.
abbrev pub IsPast : Home → Type 0
IsPast Fresh = ⊥
IsPast (Asking m h) = ⊥
IsPast (Holding m) = ⊥
IsPast HoldingAsks = ⊥
IsPast Reading = ⊥
IsPast ReadingAsks = ⊥
IsPast (Ended None e) = ⊥
IsPast (Ended (Some v) e) = Unit {0}
IsPast Gone = Unit {0}

-- The transaction holds the page and doesn't wait, so it may read.
abbrev pub IsGranted : Home → Type 0
IsGranted Fresh = ⊥
IsGranted (Asking m h) = ⊥
IsGranted (Holding m) = Unit {0}
IsGranted HoldingAsks = ⊥
IsGranted Reading = Unit {0}
IsGranted ReadingAsks = ⊥
IsGranted (Ended c e) = ⊥
IsGranted Gone = ⊥

-- The transaction hasn't begun, or is no more.
abbrev pub IsClosed : Home → Type 0
IsClosed Fresh = Unit {0}
IsClosed (Asking m h) = ⊥
IsClosed (Holding m) = ⊥
IsClosed HoldingAsks = ⊥
IsClosed Reading = ⊥
IsClosed ReadingAsks = ⊥
IsClosed (Ended c e) = Unit {0}
IsClosed Gone = Unit {0}

-- The right is on its node's shelf.
abbrev pub IsShelf : Right → Type 0
IsShelf NoRight = ⊥
IsShelf (Flying g) = ⊥
IsShelf (Shelf v) = Unit {0}
IsShelf (Returning e rs) = ⊥
IsShelf Dead = ⊥

-- The version of a copy, where there is one.
abbrev pub version_of : Option Copy → Option ℕ
version_of None = None
version_of (Some c) = Some c.version

-- The bytes of a copy, where there is one.
abbrev pub bytes_of : Option Copy → List ℕ
bytes_of None = []
bytes_of (Some c) = c.bytes

-- Where the copy of a granted page comes from: the home's slot, the grant, or the disk.
abbrev pub told_copy : Word → ℕ → Option Copy → Copy → Option Copy
told_copy Current version slot disk = slot
told_copy (Image bytes) version slot disk = Some (record { version = version; bytes = bytes })
told_copy OnDisk version slot disk = Some disk
