-- Redo of the rules is that of the machine of one page.
use Rattle.std.specs.Prelude.{◌≡◌, ℕ, suc, ◌<◌, ◌≤◌, nat_lt, true, false, List, length, Option, Some, None}
use Rattle.pcl_base.specs.Limits.{Sizes}
use Rattle.pcl_base.specs.declared.log.ChangedRange.{ChangedRange}
use Rattle.pcl_base.specs.declared.trace.Entry.{Entry}
use Rattle.text_rules.specs.ChangedRanges.{put_ranges}
use Rattle.text_rules.specs.StoredPage.{PageAt}
use Rattle.run_rules.specs.Base.{Base, page_at}
use Rattle.run_rules.specs.Disk.{Disk}
use Rattle.run_rules.specs.Durable as run
use Rattle.run_rules.specs.Now.{now}
use Rattle.run_rules.specs.Redo.{redone, greatest, records_in, all_records, redo}
use Rattle.page_protocol.specs.Bytes.{Copy, Ranges, put_all}
use Rattle.page_protocol.specs.Laws.{Redo, IsDurable}
use Rattle.page_protocol.specs.State.{Page, current}
use Rattle.page_laws.specs.Storage.Looks.{IsStored, page_of, copy_of, pairs_of, is_among, only}

-- The ranges of an entry make of a page what the machine's ranges make of it.
abbrev pub RangesArePut : Type 0
RangesArePut = (rs : List ChangedRange) (page : List ℕ) → put_ranges rs page ≡ put_all (pairs_of rs) page

-- where redo ends: the machine's redo leads there, and no log goes on
pub record RedoEnds (disk : Copy) (log : ℕ → ℕ → Option Ranges) (at : PageAt) : Type 0 where
  pub reached : Redo disk log (copy_of at)
  pub ends : (n : ℕ) → log n (suc at.version) ≡ None

-- Redo of a page over the logs of some nodes is the machine's over these logs.
abbrev pub RedoneIsReached : Type 0
RedoneIsReached =
    (c : Sizes) (d : Disk) (p : ℕ) (ns : List ℕ) (disk : Copy) (log : ℕ → ℕ → Option Ranges) → IsStored c d p disk log
    → RedoEnds disk (only ns log) (redone (records_in c d ns) p (page_of disk))

-- Redo of a page over all logs is the machine's.
abbrev pub RedoIsReached : Type 0
RedoIsReached =
    (c : Sizes) (d : Disk) (p : ℕ) (disk : Copy) (log : ℕ → ℕ → Option Ranges) → length d.logs ≡ c.nodes → IsStored c d p disk log
    → RedoEnds disk log (redone (all_records c d) p (page_of disk))

-- Where redo of the machine can only end at the current page, redo of the rules gives it.
abbrev pub RedoneIsCurrent : Type 0
RedoneIsCurrent =
    (c : Sizes) (d : Disk) (p : ℕ) (a : Page) → length d.logs ≡ c.nodes → IsStored c d p a.disk a.log → IsDurable a
    → (redone (all_records c d) p (page_of a.disk) ≡ page_of (current a)) × (redo c d p ≡ Some (page_of (current a)))

-- some of these nodes has the record of a version in its log
pub record HaveRecord (ns : List ℕ) (log : ℕ → ℕ → Option Ranges) (v : ℕ) : Type 0 where
  pub node : ℕ
  pub among : is_among ns node ≡ true
  pub ranges : Ranges
  pub there : log node v ≡ Some ranges

-- what the greatest version in some logs tells, where none is above the next version: whether one of
-- them has the next version
pub record TellsNext (ns : List ℕ) (log : ℕ → ℕ → Option Ranges) (v most : ℕ) : Type 0 where
  pub newer : nat_lt v most ≡ true → HaveRecord ns log (suc v)
  pub as_old : nat_lt v most ≡ false → (n : ℕ) → is_among ns n ≡ true → log n (suc v) ≡ None

-- The greatest version in some logs is above a version exactly where one of them has the next version.
abbrev pub GreatestTellsNext : Type 0
GreatestTellsNext =
    (c : Sizes) (d : Disk) (p v : ℕ) (ns : List ℕ) (disk : Copy) (log : ℕ → ℕ → Option Ranges) → IsStored c d p disk log
    → ((n w : ℕ) (ranges : Ranges) → log n w ≡ Some ranges → w ≤ suc v) → TellsNext ns log v (greatest (records_in c d ns) p)

-- a page of the cluster's storage has a state of the machine whose current page is that of a base
pub record IsKept (c : Sizes) (d : Disk) (base : Base) (p : ℕ) : Type 0 where
  pub page : Page
  pub stored : IsStored c d p page.disk page.log
  pub durable : IsDurable page
  pub current_is : page_at base p ≡ record { version = page.now; bytes = page.hist page.now }

-- The storage is durable where each page has such a state.
abbrev pub KeptIsDurable : Type 0
KeptIsDurable =
    (c : Sizes) (trace : List Entry) (d : Disk) (base : Base) → length d.logs ≡ c.nodes → now c trace ≡ Some base
    → ((p : ℕ) → p < c.pages → IsKept c d base p) → run.IsDurable c trace d
