-- The disks hold what the committed transactions made: redo of the storage is *now*.
use Rattle.std.specs.Prelude.{◌≡◌, ℕ, ◌==◌, ◌&&◌, Bool, false, List, [], ◌∷◌, Option, None, Some}
use Rattle.pcl_base.specs.Limits.{Sizes}
use Rattle.pcl_base.specs.declared.trace.Entry.{Entry}
use Rattle.text_rules.specs.StoredPage.{PageAt}
use Rattle.run_rules.specs.Words.{pick, same_bytes}
use Rattle.run_rules.specs.Base.{Base, version_at, bytes_at}
use Rattle.run_rules.specs.Disk.{Disk}
use Rattle.run_rules.specs.Now.{now}
use Rattle.run_rules.specs.Redo.{redo}
use Rattle.run_rules.specs.Views.{count_from}

-- whether redo of a page gives its version and bytes in a base
abbrev pub is_page_of : Base → ℕ → Option PageAt → Bool
is_page_of base p None = false
is_page_of base p (Some at) = at.version == version_at base p && same_bytes at.bytes (bytes_at base p)

-- the first of some pages that redo doesn't give as the base has it
unfoldable pub first_lost : Sizes → Disk → Base → List ℕ → Option ℕ
first_lost c d base [] = None
first_lost c d base (p ∷ ps) = pick (is_page_of base p (redo c d p)) (first_lost c d base ps) (Some p)

-- the first page that redo doesn't give as *now* has it; page 0 where *now* has no result
abbrev pub fault_against : Sizes → Disk → Option Base → Option ℕ
fault_against c d None = Some 0
fault_against c d (Some base) = first_lost c d base (count_from 0 c.pages)

-- the first page that redo doesn't give as the trace has made it
unfoldable pub durable_fault : Sizes → List Entry → Disk → Option ℕ
durable_fault c trace d = fault_against c d (now c trace)

-- Durable: redo gives each page as the commit points of the trace have made it
abbrev pub IsDurable : Sizes → List Entry → Disk → Type 0
IsDurable c trace d = durable_fault c trace d ≡ None
