-- The page writes of a redo, and what is done of them.
use Rattle.std.specs.Prelude.{◌≡◌, ◌≢◌, ⊤, ℕ, nat_lt, ◌⊎◌, List, [], ◌∷◌, slice_set, Option, Some, None, Result, Ok, Err}
use Rattle.pcl_base.specs.Limits.{Sizes}
use Rattle.pcl_base.specs.declared.log.Record.{Record}
use Rattle.pcl_base.specs.declared.trace.Call.{Call}
use Rattle.pcl_base.specs.declared.trace.Call.TheVariants as call
use Rattle.text_rules.specs.StoredPage.{PageAt, BadNumber, stored_page, stored_bytes}
use Rattle.run_rules.specs.Words.{pick}
use Rattle.run_rules.specs.Disk.{Disk, raw_page}
use Rattle.run_rules.specs.Redo.{redone, redo}
use Rattle.disk_model.specs.Disk.{Pages}
use Rattle.page_store.specs.declared.fault.RedoFault.{RedoFault}
use Rattle.page_store.specs.declared.fault.RedoFault.TheVariants.{BadPage, Failed, NoMemory}
use Rattle.partition_redo.specs.Chains.{IsReadCall}
use Rattle.disk_model.specs.Stops.{Stops, Fate, change_fate, after_change, left_by}

-- what redo writes of a page by the records of all logs: nothing where the stored page is as new
abbrev pub write_of : List Record → ℕ → Result PageAt BadNumber → Option (List ℕ)
write_of rs p (Ok old) = pick (nat_lt old.version (redone rs p old).version) (Some (stored_bytes p (redone rs p old))) None
write_of rs p (Err bad) = None

-- what it writes of a page of these stored pages
abbrev pub page_write : List Record → List (List ℕ) → ℕ → Option (List ℕ)
page_write rs pages p = write_of rs p (stored_page p (raw_page pages p))

-- stored pages after a write of page p, where there is one
abbrev pub with_write : ℕ → Option (List ℕ) → List (List ℕ) → List (List ℕ)
with_write p None pages = pages
with_write p (Some bytes) pages = slice_set pages p bytes

-- stored pages after the redo of one page
abbrev pub redo_page : List Record → List (List ℕ) → ℕ → List (List ℕ)
redo_page rs pages p = with_write p (page_write rs pages p) pages

-- stored pages after the redo of some pages, one after the other
abbrev pub redo_pages : List Record → List (List ℕ) → List ℕ → List (List ℕ)
redo_pages rs pages [] = pages
redo_pages rs pages (p ∷ ps) = redo_pages rs (redo_page rs pages p) ps

-- no armed stop decides a write, where there is one
abbrev pub IsUnstopped : ℕ → Option (List ℕ) → Stops → Type 0
IsUnstopped by None stops = ⊤
IsUnstopped by (Some bytes) stops = (kept : ℕ) → change_fate stops by ≢ Fate.Stopped kept

-- the stops after it
abbrev pub stops_after : ℕ → Option (List ℕ) → Stops → Stops
stops_after by None stops = stops
stops_after by (Some bytes) stops = after_change stops by

-- a reading call failed
abbrev pub IsReading : Result ⊤ Call → Type 0
IsReading (Ok u) = ⊥
IsReading (Err k) = IsReadCall k

-- a reading call failed before a page's write, which leaves all as it is
pub record ReadFails (pages : List (List ℕ)) (stops : Stops) (new : Pages) (left : Stops) (r : Result ⊤ Call) : Type 0 where
  pub failed : IsReading r
  pub pages_same : new ≡ Some pages
  pub stops_same : left ≡ stops

-- a page's write failed, which leaves the old page or the new one
pub record WriteFails (by p : ℕ) (bytes : List ℕ) (pages : List (List ℕ)) (stops : Stops) (new : Pages) (left : Stops) (r : Result ⊤ Call) : Type 0 where
  pub failed : r ≡ Err call.Write
  pub stop : left ≡ after_change stops by
  pub fate : change_fate stops by ≢ Fate.Done
  pub torn : (new ≡ Some pages) ⊎ (new ≡ Some (slice_set pages p bytes))
  pub kept : (kept : ℕ) → change_fate stops by ≡ Fate.Stopped kept → new ≡ left_by kept (Some pages) (Some (slice_set pages p bytes))

-- so it did, where there is a write
abbrev pub FailsAt : ℕ → ℕ → Option (List ℕ) → List (List ℕ) → Stops → Pages → Stops → Result ⊤ Call → Type 0
FailsAt by p None pages stops new left r = ⊥
FailsAt by p (Some bytes) pages stops new left r = WriteFails by p bytes pages stops new left r

-- redo of some pages, one after the other: all are redone, or a call of one of them fails, which
-- ends it
abbrev pub Ran : List Record → ℕ → List ℕ → List (List ℕ) → Stops → Pages → Stops → Result ⊤ Call → Type 0
Ran rs by [] pages stops new left r = (new ≡ Some pages) × ((left ≡ stops) × (r ≡ Ok tt))
Ran rs by (p ∷ ps) pages stops new left r =
    ReadFails pages stops new left r
    ⊎ (FailsAt by p (page_write rs pages p) pages stops new left r
    ⊎ (IsUnstopped by (page_write rs pages p) stops × Ran rs by ps (redo_page rs pages p) (stops_after by (page_write rs pages p) stops) new left r))

-- how a redo ends: its pages are redone one after the other, or it ended before the first write,
-- which leaves all as it is
abbrev pub Ended : {T : Type 0} → List Record → ℕ → List ℕ → List (List ℕ) → Stops → Pages → Stops → Result T RedoFault → Type 0
Ended rs by ps pages stops new left (Ok answer) = Ran rs by ps pages stops new left (Ok tt)
Ended rs by ps pages stops new left (Err (Failed kind)) = ReadFails pages stops new left (Err kind) ⊎ Ran rs by ps pages stops new left (Err kind)
Ended rs by ps pages stops new left (Err (BadPage page expected found)) = (new ≡ Some pages) × (left ≡ stops)
Ended rs by ps pages stops new left (Err NoMemory) = (new ≡ Some pages) × (left ≡ stops)

-- the disk with other stored pages
abbrev pub with_pages : Disk → List (List ℕ) → Disk
with_pages d pages = record d { pages = pages }

-- a stored page is the one that redo of another disk gives
abbrev pub IsStored : Sizes → Disk → List (List ℕ) → ℕ → Type 0
IsStored c d pages p = (at : PageAt) × ((redo c d p ≡ Some at) × (stored_page p (raw_page pages p) ≡ Ok at))

-- each stored page is as in one list or as in another
abbrev pub AreEither : List (List ℕ) → List (List ℕ) → List (List ℕ) → Type 0
AreEither pages old new = (p : ℕ) → (raw_page pages p ≡ raw_page old p) ⊎ (raw_page pages p ≡ raw_page new p)

-- a page was written, or a call of that failed: a reading call before the write, or the write
abbrev pub Wrote : ℕ → ℕ → List ℕ → List (List ℕ) → Stops → Pages → Stops → Result ⊤ Call → Type 0
Wrote by p bytes pages stops new left r =
    ReadFails pages stops new left r
    ⊎ (WriteFails by p bytes pages stops new left r
    ⊎ (IsUnstopped by (Some bytes) stops × ((new ≡ Some (slice_set pages p bytes)) × ((left ≡ after_change stops by) × (r ≡ Ok tt)))))
