-- What calls of a node change of what is stored of a page.
use Rattle.std.specs.Prelude.{◌≡◌, ◌≢◌, ◌↔◌, ℕ, ◌<◌, ◌≤◌, ◌^◌, true, false, List, ◌∷◌, ◌++◌, length, replicate, Option, Some, None, is_some}
use Rattle.std.specs.List.{AllByRecursion, Contains, fold}
use Rattle.pcl_base.specs.Limits.{Sizes, InLimits}
use Rattle.pcl_base.specs.declared.log.Logged.{Logged}
use Rattle.pcl_base.specs.declared.log.Record.{Record}
use Rattle.pcl_base.specs.declared.tx.TxId.{TxId}
use Rattle.text_rules.specs.LogRecord.{record_bytes, is_whole, whole_len, IsRecord}
use Rattle.text_rules.specs.StoredPage.{PageAt, stored_bytes}
use Rattle.run_rules.specs.Disk.{Disk, log_at, fresh_disk}
use Rattle.node_rules.specs.CutRule.{cuttable}
use Rattle.node_rules.specs.DiskCalls.{DiskCall, WritePage, Force, TrimLog, CutLog, done, all_done, stopped, kept_of, forced, Stop, Left, left_by}
use Rattle.node_rules.specs.Work.{Goes, read_page}
use Rattle.node_rules.specs.Words.{or_else}
use Rattle.redo_laws.specs.Laws.{HasLog, CanBeWritten}
use Rattle.redo_laws.specs.Words.{IsWhole}
use Rattle.page_protocol.specs.Bytes.{Copy, Ranges}
use Rattle.page_laws.specs.Storage.Looks.{IsStored, page_of, copy_of, copy_on, ranges_of_part, with_record, without}

-- On fresh storage each page is at version 0 with zero bytes, and no log has a record.
abbrev pub FreshIsStored : Type 0
FreshIsStored =
    (c : Sizes) (p : ℕ) → p < c.pages → IsStored c (fresh_disk c) p (record { version = 0; bytes = replicate c.size 0 }) (λ n v. None)

-- A stored page is read as its copy.
abbrev pub StoredIsRead : Type 0
StoredIsRead =
    (c : Sizes) (d : Disk) (p : ℕ) (disk : Copy) (log : ℕ → ℕ → Option Ranges) → IsStored c d p disk log → read_page d.pages p ≡ Goes (page_of disk)

-- the disk has page p
pub record HasPage (c : Sizes) (d : Disk) (p : ℕ) : Type 0 where
  pub limits : InLimits c
  pub count : length d.pages ≡ c.pages
  pub page : p < c.pages

-- A page that is written is on disk, at its version and with its bytes; the logs stay.
abbrev pub WrittenIsStored : Type 0
WrittenIsStored =
    (c : Sizes) (d : Disk) (n p : ℕ) (at : PageAt) (disk : Copy) (log : ℕ → ℕ → Option Ranges) → HasPage c d p → at.version < 2 ^ 64
    → IsStored c d p disk log → IsStored c (done n d (WritePage p (stored_bytes p at))) p (copy_of at) log

-- A write of another page changes nothing of a page.
abbrev pub WrittenElsewhere : Type 0
WrittenElsewhere =
    (c : Sizes) (d : Disk) (n p q : ℕ) (bytes : List ℕ) (disk : Copy) (log : ℕ → ℕ → Option Ranges) → p ≢ q
    → IsStored c d p disk log → IsStored c (done n d (WritePage q bytes)) p disk log

-- A record that is forced behind whole records of lower versions is its log's record of its version.
abbrev pub ForcedIsLogged : Type 0
ForcedIsLogged =
    (c : Sizes) (d : Disk) (n : ℕ) (t : TxId) (r : Record) (x : Logged) (disk : Copy) (log : ℕ → ℕ → Option Ranges) → HasLog c d n → IsWhole c (log_at d n) → CanBeWritten c r
    → Contains r.changes x → is_whole x.part ≡ false → ((v : ℕ) → x.version ≤ v → log n v ≡ None)
    → IsStored c d x.page disk log → IsStored c (done n d (Force t (record_bytes r))) x.page disk (with_record log n x.version (ranges_of_part x.part))

-- A record without the page changes nothing of it.
abbrev pub ForcedElsewhere : Type 0
ForcedElsewhere =
    (c : Sizes) (d : Disk) (n p : ℕ) (t : TxId) (r : Record) (disk : Copy) (log : ℕ → ℕ → Option Ranges) → IsWhole c (log_at d n) → CanBeWritten c r
    → AllByRecursion (λ x. x.page ≢ p) r.changes → IsStored c d p disk log → IsStored c (done n d (Force t (record_bytes r))) p disk log

-- A piece of a record behind whole records changes nothing.
abbrev pub TornIsNotLogged : Type 0
TornIsNotLogged =
    (c : Sizes) (d : Disk) (n p k : ℕ) (t : TxId) (r : Record) (disk : Copy) (log : ℕ → ℕ → Option Ranges) → IsWhole c (log_at d n) → InLimits c → IsRecord c r
    → k < length (record_bytes r) → IsStored c d p disk log → IsStored c (stopped n d (Force t (record_bytes r)) k) p disk log

-- A trim of the torn rest changes nothing.
abbrev pub TrimmedIsStored : Type 0
TrimmedIsStored =
    (c : Sizes) (d : Disk) (n p : ℕ) (disk : Copy) (log : ℕ → ℕ → Option Ranges) → IsStored c d p disk log
    → IsStored c (done n d (TrimLog (whole_len c (log_at d n)))) p disk log

-- what a cut leaves of a page: the records above some version that the disk has
pub record IsCut (c : Sizes) (d : Disk) (n p : ℕ) (disk : Copy) (log : ℕ → ℕ → Option Ranges) : Type 0 where
  pub upto : ℕ
  pub on_disk : upto ≤ disk.version
  pub left : IsStored c d p disk (without log n upto)

-- A cut of what may be cut takes records up to some version that the disk has.
abbrev pub CutTakesOld : Type 0
CutTakesOld =
    (c : Sizes) (d : Disk) (n p count : ℕ) (disk : Copy) (log : ℕ → ℕ → Option Ranges) → n < length d.logs → cuttable c d.pages (log_at d n) ≡ Goes count
    → IsStored c d p disk log → IsCut c (done n d (CutLog count)) n p disk log

-- each page of the database stands on disk under its own number
pub record AreNumbered (c : Sizes) (d : Disk) : Type 0 where
  pub count : length d.pages ≡ c.pages
  pub read : (p : ℕ) → p < c.pages → is_some (copy_on d p) ≡ true

-- So the length that may be cut is found.
abbrev pub CutIsFound : Type 0
CutIsFound = (c : Sizes) (d : Disk) (log : List ℕ) → AreNumbered c d → (count : ℕ) × (cuttable c d.pages log ≡ Goes count)

-- what a call that is stopped leaves: nothing of it, all of it, or a piece of a record
pub data StopLeaves (n : ℕ) (d : Disk) (call : DiskCall) (kept : ℕ) : Type 0 where
  undone : stopped n d call kept ≡ d → kept_of call kept ≡ None → StopLeaves n d call kept
  whole : stopped n d call kept ≡ done n d call → kept_of call kept ≡ forced None call → StopLeaves n d call kept
  torn : (t : TxId) (bytes : List ℕ) → call ≡ Force t bytes → kept < length bytes → kept_of call kept ≡ None → StopLeaves n d call kept

-- A stopped call leaves one of these, and a transaction is kept exactly where its record is whole.
abbrev pub StoppedLeaves : Type 0
StoppedLeaves = (n : ℕ) (d : Disk) (call : DiskCall) (kept : ℕ) → StopLeaves n d call kept

-- the transaction whose record some calls force, the last of them
abbrev pub forced_by : List DiskCall → Option TxId
forced_by calls = fold forced None calls

-- what a stop leaves of some calls: those before the stopped one are done
pub record IsLeft (n : ℕ) (d : Disk) (calls : List DiskCall) (s : Stop) (l : Left) : Type 0 where
  pub front : List DiskCall
  pub call : DiskCall
  pub back : List DiskCall
  pub parts : calls ≡ front ++ call ∷ back
  pub count : length front ≡ s.before
  pub disk : l.disk ≡ stopped n (all_done n d front) call s.kept
  pub kept : l.kept ≡ or_else (forced_by front) (kept_of call s.kept)

-- A stop within some calls leaves the calls before it done, and the stopped one as it leaves it.
abbrev pub StopsLeave : Type 0
StopsLeave = (n : ℕ) (d : Disk) (calls : List DiskCall) (s : Stop) (l : Left) → left_by n d calls s ≡ Some l → IsLeft n d calls s l

-- A log without a torn rest is as long as its whole records.
abbrev pub WholeIsItsLength : Type 0
WholeIsItsLength = (c : Sizes) (log : List ℕ) → IsWhole c log ↔ (whole_len c log ≡ length log)

-- what keeps a log whole: a whole record, a cut and a page; and a trim makes it so
pub record KeepsWhole (c : Sizes) (d : Disk) (n : ℕ) : Type 0 where
  pub forces : (t : TxId) (r : Record) → CanBeWritten c r → IsWhole c (log_at d n) → IsWhole c (log_at (done n d (Force t (record_bytes r))) n)
  pub cuts : (count : ℕ) → cuttable c d.pages (log_at d n) ≡ Goes count → IsWhole c (log_at d n) → IsWhole c (log_at (done n d (CutLog count)) n)
  pub trims : IsWhole c (log_at (done n d (TrimLog (whole_len c (log_at d n)))) n)

-- A log of the disk stays whole, and is whole once it is trimmed.
abbrev pub WholeStays : Type 0
WholeStays = (c : Sizes) (d : Disk) (n : ℕ) → n < length d.logs → KeepsWhole c d n

-- Another node's log stays.
abbrev pub OtherLogsStay : Type 0
OtherLogsStay =
    (d : Disk) (n m : ℕ) (call : DiskCall) (kept : ℕ) → m ≢ n
    → (log_at (done n d call) m ≡ log_at d m) × (log_at (stopped n d call kept) m ≡ log_at d m)
