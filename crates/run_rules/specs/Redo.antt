-- Redo: what the logs of all nodes make of the stored pages.
use Rattle.std.specs.Prelude.{ℕ, zero, suc, ◌+◌, ◌==◌, nat_lt, Bool, true, List, [], ◌∷◌, ◌++◌, length, Option, Some, None, Result, Ok, Err}
use Rattle.std.specs.List.{filter, fold}
use Rattle.pcl_base.specs.Limits.{Sizes}
use Rattle.pcl_base.specs.declared.log.Record.{Record}
use Rattle.pcl_base.specs.declared.log.Logged.{Logged}
use Rattle.pcl_base.specs.declared.log.Part.{Part}
use Rattle.pcl_base.specs.declared.log.Part.TheVariants.{Image, Ranges}
use Rattle.pcl_base.specs.declared.log.ChangedRange.{ChangedRange}
use Rattle.text_rules.specs.ChangedRanges.{put_ranges}
use Rattle.text_rules.specs.LogRecord.{records_of}
use Rattle.text_rules.specs.StoredPage.{PageAt, BadNumber, stored_page}
use Rattle.run_rules.specs.Words.{pick}
use Rattle.run_rules.specs.Disk.{Disk, raw_page, log_at}
use Rattle.run_rules.specs.Views.{count_from}

-- the entries of a page in some records, in order
unfoldable pub entries_of : ℕ → List Record → List Logged
entries_of p [] = []
entries_of p (r ∷ rs) = filter (λ x. x.page == p) r.changes ++ entries_of p rs

-- the whole page of an entry, where that is newer than what is known
abbrev pub newer : ℕ → PageAt → Part → PageAt
newer v at (Image bytes) = pick (nat_lt at.version v) (record { version = v; bytes = bytes }) at
newer v at (Ranges rs) = at

-- the newest whole page among entries, where that is newer than what is known
abbrev pub newest_image : PageAt → List Logged → PageAt
newest_image at xs = fold (λ a x. newer x.version a x.part) at xs

-- the ranges of the first entry at a version
abbrev pub ranges_or : Bool → Part → Option (List ChangedRange) → Option (List ChangedRange)
ranges_or true (Ranges rs) further = Some rs
ranges_or _ part further = further

-- the ranges of the first entry of changed ranges at a version
unfoldable pub ranges_at : List Logged → ℕ → Option (List ChangedRange)
ranges_at [] v = None
ranges_at (x ∷ xs) v = ranges_or (x.version == v) x.part (ranges_at xs v)

-- as long as an entry of changed ranges has the next version, they are put over the bytes
abbrev pub step_on : Option (List ChangedRange) → PageAt → (PageAt → PageAt) → PageAt
step_on None at further = at
step_on (Some rs) at further = further (record { version = at.version + 1; bytes = put_ranges rs at.bytes })

-- what such steps lead to, at most n of them
unfoldable pub reached : ℕ → List Logged → PageAt → PageAt
reached zero xs at = at
reached (suc n) xs at = step_on (ranges_at xs (at.version + 1)) at (reached n xs)

-- a page by its stored version and the whole records of all logs
unfoldable pub redone : List Record → ℕ → PageAt → PageAt
redone rs p at = reached (length (entries_of p rs)) (entries_of p rs) (newest_image at (entries_of p rs))

-- the greatest version of a page in some records, or 0
unfoldable pub greatest : List Record → ℕ → ℕ
greatest rs p = fold (λ v x. pick (nat_lt v x.version) x.version v) 0 (entries_of p rs)

-- the whole records of some nodes' logs, in their order
unfoldable pub records_in : Sizes → Disk → List ℕ → List Record
records_in c d [] = []
records_in c d (n ∷ ns) = records_of c (log_at d n) ++ records_in c d ns

-- the whole records of all logs
abbrev pub all_records : Sizes → Disk → List Record
all_records c d = records_in c d (count_from 0 c.nodes)

-- redo of a page: none where its stored number is wrong
abbrev pub redone_if : List Record → ℕ → Result PageAt BadNumber → Option PageAt
redone_if rs p (Ok at) = Some (redone rs p at)
redone_if rs p (Err bad) = None

-- redo of a page of a disk
unfoldable pub redo : Sizes → Disk → ℕ → Option PageAt
redo c d p = redone_if (all_records c d) p (stored_page p (raw_page d.pages p))
