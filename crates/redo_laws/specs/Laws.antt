-- Laws of redo: what a commit adds, and what changes nothing.
use Rattle.std.specs.Prelude.{◌≡◌, ◌≢◌, ℕ, ◌+◌, ◌<◌, ◌≤◌, ◌^◌, ◌⊎◌, List, ◌++◌, length, take, None, Some, Ok}
use Rattle.std.specs.List.{AllByRecursion, Contains}
use Rattle.pcl_base.specs.Limits.{Sizes, InLimits}
use Rattle.pcl_base.specs.declared.log.Record.{Record}
use Rattle.pcl_base.specs.declared.log.Logged.{Logged}
use Rattle.text_rules.specs.LogRecord.{record_bytes, records_of, whole_len, IsRecord}
use Rattle.text_rules.specs.StoredPage.{PageAt, stored_page}
use Rattle.run_rules.specs.Disk.{Disk, raw_page, log_at}
use Rattle.run_rules.specs.Redo.{entries_of, ranges_at, greatest, redo}
use Rattle.redo_laws.specs.Words.{with_log, with_more, with_page, IsWhole, HasNumbers, entries, made_by, PassesThrough}

-- node n has a log on the disk
pub record HasLog (c : Sizes) (d : Disk) (n : ℕ) : Type 0 where
  pub node : n < c.nodes
  pub log : n < length d.logs

-- a record that has bytes of its own
pub record CanBeWritten (c : Sizes) (r : Record) : Type 0 where
  pub limits : InLimits c
  pub shape : IsRecord c r
  pub numbers : HasNumbers r

-- Where redo of a page is (v, bytes) and a record of the page at v + 1 is appended behind whole
-- records, redo is that record's; no changed ranges at v + 2 may stand in the logs.
abbrev pub AppendedIsRedone : Type 0
AppendedIsRedone =
    (c : Sizes) (d : Disk) (n : ℕ) (r : Record) (x : Logged) (at : PageAt) → HasLog c d n → IsWhole c (log_at d n) → CanBeWritten c r
    → Contains r.changes x → redo c d x.page ≡ Some at → x.version ≡ at.version + 1 → ranges_at (entries c d x.page) (at.version + 2) ≡ None
    → redo c (with_more d n (record_bytes r)) x.page ≡ Some (made_by x.part at)

-- A record that hasn't the page, appended behind whole records, changes nothing of it.
abbrev pub AppendedElsewhere : Type 0
AppendedElsewhere =
    (c : Sizes) (d : Disk) (n p : ℕ) (r : Record) → HasLog c d n → IsWhole c (log_at d n) → CanBeWritten c r
    → AllByRecursion (λ x. x.page ≢ p) r.changes → redo c (with_more d n (record_bytes r)) p ≡ redo c d p

-- After a whole record the log is whole records again.
abbrev pub AppendedIsWhole : Type 0
AppendedIsWhole =
    (c : Sizes) (log : List ℕ) (r : Record) → IsWhole c log → CanBeWritten c r → IsWhole c (log ++ record_bytes r)

-- A torn piece of a record behind whole records changes nothing.
abbrev pub TornChangesNothing : Type 0
TornChangesNothing =
    (c : Sizes) (d : Disk) (n p k : ℕ) (r : Record) → IsWhole c (log_at d n) → InLimits c → IsRecord c r → k < length (record_bytes r)
    → redo c (with_more d n (take k (record_bytes r))) p ≡ redo c d p

-- A trim of the torn rest changes nothing.
abbrev pub TrimChangesNothing : Type 0
TrimChangesNothing =
    (c : Sizes) (d : Disk) (n p : ℕ) → redo c (with_log d n (take (whole_len c (log_at d n)) (log_at d n))) p ≡ redo c d p

-- It leaves whole records.
abbrev pub TrimmedIsWhole : Type 0
TrimmedIsWhole = (c : Sizes) (log : List ℕ) → IsWhole c (take (whole_len c log) log)

-- the stored page has the versions of all its entries, or later ones
abbrev pub HasVersions : Disk → ℕ → List Logged → Type 0
HasVersions d p xs = (at : PageAt) → stored_page p (raw_page d.pages p) ≡ Ok at → AllByRecursion (λ x. x.version ≤ at.version) xs

-- A cut of whole records in front of a log, whose versions of the page the stored page has, changes
-- nothing of the page.
abbrev pub CutChangesNothing : Type 0
CutChangesNothing =
    (c : Sizes) (d : Disk) (n p : ℕ) (front rest : List ℕ) → HasLog c d n → log_at d n ≡ front ++ rest → IsWhole c front
    → HasVersions d p (entries_of p (records_of c front)) → redo c (with_log d n rest) p ≡ redo c d p

-- A stored page that is written with a version and bytes that redo passes through changes nothing
-- of any page.
abbrev pub WrittenChangesNothing : Type 0
WrittenChangesNothing =
    (c : Sizes) (d : Disk) (p q : ℕ) (at mid : PageAt) → p < 2 ^ 32 → mid.version < 2 ^ 64 → stored_page p (raw_page d.pages p) ≡ Ok at
    → PassesThrough (entries c d p) at mid → redo c (with_page d p mid) q ≡ redo c d q

-- Redo passes through what it gives, so writing that changes nothing.
abbrev pub RedoneMayBeWritten : Type 0
RedoneMayBeWritten =
    (c : Sizes) (d : Disk) (p q : ℕ) (at : PageAt) → p < 2 ^ 32 → at.version < 2 ^ 64 → redo c d p ≡ Some at
    → redo c (with_page d p at) q ≡ redo c d q

-- Redo is never older than the stored page.
abbrev pub RedoIsNoOlder : Type 0
RedoIsNoOlder =
    (c : Sizes) (d : Disk) (p : ℕ) (old new : PageAt) → stored_page p (raw_page d.pages p) ≡ Ok old → redo c d p ≡ Some new
    → old.version ≤ new.version

-- a version that no entry passes, and that one has, or 0
pub record IsGreatest (xs : List Logged) (v : ℕ) : Type 0 where
  pub most : AllByRecursion (λ x. x.version ≤ v) xs
  pub there : (v ≡ 0) ⊎ ((x : Logged) × (Contains xs x × (x.version ≡ v)))

-- The greatest version of a page is the greatest of its entries'.
abbrev pub GreatestIsGreatest : Type 0
GreatestIsGreatest = (rs : List Record) (p : ℕ) → IsGreatest (entries_of p rs) (greatest rs p)
