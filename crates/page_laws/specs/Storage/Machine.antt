-- The calls of a node and the redo of a page, as the machine of one page has them.
use Rattle.std.specs.Prelude.{◌≡◌, ℕ, suc, ◌^◌, ◌<◌, ◌≤◌, nat_lt, true, false, List, length, Some, None}
use Rattle.std.specs.List.{Contains}
use Rattle.pcl_base.specs.Limits.{Sizes}
use Rattle.pcl_base.specs.declared.log.Logged.{Logged}
use Rattle.pcl_base.specs.declared.log.Record.{Record}
use Rattle.pcl_base.specs.declared.tx.TxId.{TxId}
use Rattle.text_rules.specs.LogRecord.{record_bytes, is_whole}
use Rattle.text_rules.specs.StoredPage.{PageAt, stored_bytes}
use Rattle.run_rules.specs.Disk.{Disk, log_at}
use Rattle.run_rules.specs.Redo.{redone, greatest, records_in, all_records, redo}
use Rattle.node_rules.specs.CutRule.{cuttable}
use Rattle.node_rules.specs.DiskCalls.{WritePage, Force, CutLog, done}
use Rattle.node_rules.specs.Work.{Goes}
use Rattle.redo_laws.specs.Laws.{HasLog, CanBeWritten}
use Rattle.redo_laws.specs.Words.{IsWhole}
use Rattle.page_protocol.specs.Authority.{releasing_to_disk}
use Rattle.page_protocol.specs.Bytes.{Copy, Ranges}
use Rattle.page_protocol.specs.Eras.{redoing, completing}
use Rattle.page_protocol.specs.Homes.{committing}
use Rattle.page_protocol.specs.State.{Page, current}
use Rattle.page_protocol.specs.Steps.{Reached}
use Rattle.page_protocol.specs.Storage.{restoring, flushing, cutting}
use Rattle.page_laws.specs.Storage.Looks.{IsStored, page_of, ranges_of_part, is_among}
use Rattle.page_laws.specs.Storage.Stored.{HasPage}

-- what is stored of a page is what a state of the machine says
abbrev pub HasStored : Sizes → Disk → ℕ → Page → Type 0
HasStored c d p a = IsStored c d p a.disk a.log

-- the page at a version
abbrev pub at_version : Page → ℕ → PageAt
at_version a v = record { version = v; bytes = a.hist v }

-- the disk once a node has written this page
abbrev pub written : ℕ → Disk → ℕ → PageAt → Disk
written n d p at = done n d (WritePage p (stored_bytes p at))

-- what the machine's disk becomes by a write of one version
pub record WritesAreSteps (c : Sizes) (d : Disk) (n p : ℕ) (a : Page) : Type 0 where
  pub restores : (w : ℕ) → w < 2 ^ 64 → HasStored c (written n d p (at_version a w)) p (restoring a w)
  pub flushes : (x : Copy) → x.version < 2 ^ 64 → HasStored c (written n d p (page_of x)) p (flushing a x)
  pub releases : (t : TxId) (v : ℕ) → v < 2 ^ 64 → HasStored c (written n d p (at_version a v)) p (releasing_to_disk a t v)
  pub redoes : a.now < 2 ^ 64 → HasStored c (written n d p (at_version a a.now)) p (redoing a)
  pub completes : (e o : ℕ) → a.now < 2 ^ 64 → HasStored c (written n d p (at_version a a.now)) p (completing a e o)

-- A page that a node writes is what the machine's steps put on disk.
abbrev pub PagesAreWritten : Type 0
PagesAreWritten = (c : Sizes) (d : Disk) (n p : ℕ) (a : Page) → HasPage c d p → HasStored c d p a → WritesAreSteps c d n p a

-- what the machine's disk becomes where the current page stands there already
pub record StandsAlready (c : Sizes) (d : Disk) (p : ℕ) (a : Page) : Type 0 where
  pub is_current : a.disk ≡ current a
  pub redoes : HasStored c d p (redoing a)
  pub completes : (e o : ℕ) → HasStored c d p (completing a e o)

-- A page whose disk isn't behind the current version is the current one.
abbrev pub CurrentStands : Type 0
CurrentStands =
    (c : Sizes) (d : Disk) (p : ℕ) (blank : List ℕ) (a : Page) → Reached blank a → HasStored c d p a → nat_lt a.disk.version a.now ≡ false → StandsAlready c d p a

-- No log has a record past the current version.
abbrev pub RecordsAreOld : Type 0
RecordsAreOld = (blank : List ℕ) (a : Page) → Reached blank a → (n v : ℕ) (ranges : Ranges) → a.log n v ≡ Some ranges → v ≤ a.now

-- A commit that forces the next version behind whole records is the machine's.
abbrev pub CommitsAreForced : Type 0
CommitsAreForced =
    (c : Sizes) (d : Disk) (t : TxId) (r : Record) (x : Logged) (blank : List ℕ) (a : Page) → Reached blank a → HasLog c d t.node → IsWhole c (log_at d t.node) → CanBeWritten c r
    → Contains r.changes x → is_whole x.part ≡ false → x.version ≡ suc a.now → HasStored c d x.page a
    → HasStored c (done t.node d (Force t (record_bytes r))) x.page (committing a t (ranges_of_part x.part))

-- the machine's cut of a node's log
pub record IsCutting (c : Sizes) (d : Disk) (n p : ℕ) (a : Page) : Type 0 where
  pub upto : ℕ
  pub on_disk : upto ≤ a.disk.version
  pub left : HasStored c d p (cutting a n upto)

-- A cut of what may be cut is the machine's.
abbrev pub CutsAreCutting : Type 0
CutsAreCutting =
    (c : Sizes) (d : Disk) (n p count : ℕ) (a : Page) → n < length d.logs → cuttable c d.pages (log_at d n) ≡ Goes count → HasStored c d p a
    → IsCutting c (done n d (CutLog count)) n p a

-- Redo of a page gives the machine's current page.
abbrev pub CurrentIsRedone : Type 0
CurrentIsRedone =
    (c : Sizes) (d : Disk) (p : ℕ) (blank : List ℕ) (a : Page) → Reached blank a → length d.logs ≡ c.nodes → HasStored c d p a
    → (redone (all_records c d) p (page_of a.disk) ≡ at_version a a.now) × (redo c d p ≡ Some (at_version a a.now))

-- what the greatest version in the logs of some nodes tells of a served page: whether its entry lags behind by
-- one, for a change that one of these nodes made
pub record TellsEntry (ns : List ℕ) (a : Page) (most : ℕ) : Type 0 where
  pub newer : nat_lt a.entry most ≡ true → suc a.entry ≡ a.now
  pub as_old : nat_lt a.entry most ≡ false → (n : ℕ) → is_among ns n ≡ true → a.log n (suc a.entry) ≡ None

-- The test by which a lost node's log is redone.
abbrev pub GreatestTellsEntry : Type 0
GreatestTellsEntry =
    (c : Sizes) (d : Disk) (p : ℕ) (ns : List ℕ) (blank : List ℕ) (a : Page) → Reached blank a → a.served ≡ true → HasStored c d p a
    → TellsEntry ns a (greatest (records_in c d ns) p)
