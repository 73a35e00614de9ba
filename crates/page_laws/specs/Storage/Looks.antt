-- What is stored of one page, in the words of the machine of one page: its copy on disk, and what each
-- node's log has of it.
use Rattle.std.specs.Prelude.{◌≡◌, ℕ, ◌<◌, ◌==◌, ◌&&◌, eqb, leb, Bool, false, List, [], ◌∷◌, map, Option, Some, None, Result, Ok, Err, ⊤}
use Rattle.std.specs.List.{list_any}
use Rattle.pcl_base.specs.Limits.{Sizes}
use Rattle.pcl_base.specs.declared.log.ChangedRange.{ChangedRange}
use Rattle.pcl_base.specs.declared.log.Logged.{Logged}
use Rattle.pcl_base.specs.declared.log.Part.{Part}
use Rattle.pcl_base.specs.declared.log.Part.TheVariants as part
use Rattle.text_rules.specs.LogRecord.{records_of, is_whole}
use Rattle.text_rules.specs.StoredPage.{PageAt, BadNumber, stored_page}
use Rattle.run_rules.specs.Disk.{Disk, raw_page, log_at}
use Rattle.run_rules.specs.Redo.{entries_of}
use Rattle.page_protocol.specs.Bytes.{Copy, Ranges}
use Rattle.page_protocol.specs.State.{pick, updn}

-- a page that was read; none where another number stands there
abbrev pub copy_read : Result PageAt BadNumber → Option Copy
copy_read (Ok at) = Some (record { version = at.version; bytes = at.bytes })
copy_read (Err bad) = None

-- a copy as redo has it, and back
abbrev pub page_of : Copy → PageAt
page_of c = record { version = c.version; bytes = c.bytes }

-- what redo has, as a copy
abbrev pub copy_of : PageAt → Copy
copy_of at = record { version = at.version; bytes = at.bytes }

-- the page on disk
unfoldable pub copy_on : Disk → ℕ → Option Copy
copy_on d p = copy_read (stored_page p (raw_page d.pages p))

-- places with their bytes
abbrev pub pairs_of : List ChangedRange → Ranges
pairs_of rs = map (λ (r : ChangedRange). (r.place, r.bytes)) rs

-- the ranges of a log's entry; a whole page is one range
abbrev pub ranges_of_part : Part → Ranges
ranges_of_part (part.Image bytes) = (0, bytes) ∷ []
ranges_of_part (part.Ranges rs) = pairs_of rs

-- the ranges of the first entry at a version
unfoldable pub ranges_in : List Logged → ℕ → Option Ranges
ranges_in [] v = None
ranges_in (x ∷ xs) v = pick (x.version == v) (Some (ranges_of_part x.part)) (ranges_in xs v)

-- what a node's log has of a page, in its order
unfoldable pub entries_at : Sizes → Disk → ℕ → ℕ → List Logged
entries_at c d n p = entries_of p (records_of c (log_at d n))

-- the record of a version of a page in a node's log
abbrev pub log_of : Sizes → Disk → ℕ → ℕ → ℕ → Option Ranges
log_of c d n p v = ranges_in (entries_at c d n p) v

-- entries of a log: their versions rise, and none is a whole page
abbrev pub AreRising : ℕ → List Logged → Type 0
AreRising low [] = ⊤
AreRising low (x ∷ xs) = (low < x.version) × (is_whole x.part ≡ false) × AreRising x.version xs

-- what is stored of a page: this copy on disk, and these records in the logs, of rising versions in each
pub record IsStored (c : Sizes) (d : Disk) (p : ℕ) (disk : Copy) (log : ℕ → ℕ → Option Ranges) : Type 0 where
  pub disk_same : copy_on d p ≡ Some disk
  pub log_same : (n v : ℕ) → log_of c d n p v ≡ log n v
  pub rising : (n : ℕ) → AreRising 0 (entries_at c d n p)

-- logs with a record more of node n, as a commit leaves them
abbrev pub with_record : (ℕ → ℕ → Option Ranges) → ℕ → ℕ → Ranges → ℕ → ℕ → Option Ranges
with_record log n v ranges = updn log n (updn (log n) v (Some ranges))

-- logs without the records of node n up to a version, as a cut leaves them
abbrev pub without : (ℕ → ℕ → Option Ranges) → ℕ → ℕ → ℕ → ℕ → Option Ranges
without log n w m v = pick (eqb m n && leb v w) None (log m v)

-- the logs of some nodes alone
abbrev pub is_among : List ℕ → ℕ → Bool
is_among ns n = list_any (λ m. m == n) ns

-- what these have of a page
abbrev pub only : List ℕ → (ℕ → ℕ → Option Ranges) → ℕ → ℕ → Option Ranges
only ns log n v = pick (is_among ns n) (log n v) None
