-- Words of the laws: changed disks, logs without a torn rest, and where redo passes through.
use Rattle.std.specs.Prelude.{◌≡◌, ℕ, ◌+◌, ◌<◌, ◌≤◌, ◌^◌, ◌⊎◌, List, [], ◌++◌, slice_set}
use Rattle.std.specs.List.{AllByRecursion}
use Rattle.pcl_base.specs.Limits.{Sizes}
use Rattle.pcl_base.specs.declared.log.Record.{Record}
use Rattle.pcl_base.specs.declared.log.Logged.{Logged}
use Rattle.pcl_base.specs.declared.log.Part.{Part}
use Rattle.pcl_base.specs.declared.log.Part.TheVariants.{Image, Ranges}
use Rattle.text_rules.specs.ChangedRanges.{put_ranges}
use Rattle.text_rules.specs.LogRecord.{log_of}
use Rattle.text_rules.specs.StoredPage.{PageAt, stored_bytes}
use Rattle.run_rules.specs.Disk.{Disk, log_at}
use Rattle.run_rules.specs.Redo.{entries_of, newest_image, reached, all_records}

-- the disk with another log of node n
abbrev pub with_log : Disk → ℕ → List ℕ → Disk
with_log d n log = record d { logs = slice_set d.logs n log }

-- the disk with other bytes behind the log of node n
abbrev pub with_more : Disk → ℕ → List ℕ → Disk
with_more d n bytes = with_log d n (log_at d n ++ bytes)

-- the disk with another stored page p
abbrev pub with_page : Disk → ℕ → PageAt → Disk
with_page d p at = record d { pages = slice_set d.pages p (stored_bytes p at) }

-- the bytes of a log are whole records
abbrev pub IsWhole : Sizes → List ℕ → Type 0
IsWhole c log = (log_of c log).rest ≡ []

-- the numbers of a record are of their types
pub record HasNumbers (r : Record) : Type 0 where
  pub born : r.tx.born < 2 ^ 32
  pub serial : r.tx.serial < 2 ^ 32
  pub versions : AllByRecursion (λ x. x.version < 2 ^ 64) r.changes

-- the entries of page p in the whole records of all logs
abbrev pub entries : Sizes → Disk → ℕ → List Logged
entries c d p = entries_of p (all_records c d)

-- what an entry makes of a page
abbrev pub made_by : Part → PageAt → PageAt
made_by (Image bytes) at = record { version = at.version + 1; bytes = bytes }
made_by (Ranges rs) at = record { version = at.version + 1; bytes = put_ranges rs at.bytes }

-- redo of a stored page passes through another: that one is on the way from the newest whole page
-- on, or it is no older than the stored one and older than a whole page in the logs
abbrev pub PassesThrough : List Logged → PageAt → PageAt → Type 0
PassesThrough xs at mid =
    ((k : ℕ) × (mid ≡ reached k xs (newest_image at xs)))
    ⊎ ((at.version ≤ mid.version) × (mid.version < (newest_image at xs).version))
