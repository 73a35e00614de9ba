-- The cells that hold a base while a script is run on it.
use Rattle.std.specs.Prelude.{◌≡◌, ℕ, ◌+◌, ◌-◌, ◌^◌, ◌<◌, Bool, true, false, ◌||◌, nat_lt, List, map, length, slice_index_or, Option, None, Some, is_some}
use Rattle.std.specs.List.{list_any}
use Rattle.std.specs.Global.{Vec}
use Rattle.pcl_base.specs.declared.script.Step.{Step}
use Rattle.pcl_base.specs.declared.script.Step.TheVariants.{Read, Write}
use Rattle.pcl_model.specs.declared.cell.Cell.{Cell}
use Rattle.run_rules.specs.Words.{pick}
use Rattle.run_rules.specs.Base.{BasePage, Base}
use Rattle.run_rules.specs.Running.{writes}

-- the cell of a page never written
abbrev pub new_cell : Cell
new_cell = record { version = 0; bytes = None; work = None }

-- the cell at place p, and one of a page never written past the end
abbrev pub cell_at : List Cell → ℕ → Cell
cell_at cells p = slice_index_or cells p new_cell

-- the bytes, or else some others
abbrev pub bytes_or : Option (Vec ℕ) → List ℕ → List ℕ
bytes_or None others = others
bytes_or (Some v) others = v.items

-- the bytes that a page has between scripts, and those that the script has made of it; zeros are
-- those of a page never written
abbrev pub kept_bytes : List ℕ → Cell → List ℕ
kept_bytes zeros c = bytes_or c.bytes zeros

abbrev pub work_bytes : List ℕ → Cell → List ℕ
work_bytes zeros c = bytes_or c.work (kept_bytes zeros c)

-- the page as it was before the script, as the script has made it so far, and as its commit will
-- leave it
abbrev pub kept_page : List ℕ → Cell → BasePage
kept_page zeros c = record { version = c.version; bytes = kept_bytes zeros c }

abbrev pub work_page : List ℕ → Cell → BasePage
work_page zeros c = record { version = c.version; bytes = work_bytes zeros c }

abbrev pub next_page : List ℕ → Cell → BasePage
next_page zeros c = record { version = pick (is_some c.work) (c.version + 1) c.version; bytes = work_bytes zeros c }

-- the same of all pages
abbrev pub kept : List ℕ → List Cell → Base
kept zeros cells = map (kept_page zeros) cells

abbrev pub working : List ℕ → List Cell → Base
working zeros cells = map (work_page zeros) cells

abbrev pub next : List ℕ → List Cell → Base
next zeros cells = map (next_page zeros) cells

-- whether the script has written page p
abbrev pub is_worked : List Cell → ℕ → Bool
is_worked cells p = is_some (cell_at cells p).work

-- each page has as many bytes as zeros has
abbrev pub IsEven : List ℕ → List Cell → Type 0
IsEven zeros cells = (p : ℕ) → (length (kept_bytes zeros (cell_at cells p)) ≡ length zeros) × (length (work_bytes zeros (cell_at cells p)) ≡ length zeros)

-- no page is one that a script has written
abbrev pub IsIdle : List Cell → Type 0
IsIdle cells = (p : ℕ) → is_some (cell_at cells p).work ≡ false

-- each page that the script has written is one that some of these steps write
abbrev pub IsWorkOf : List Step → List Cell → Type 0
IsWorkOf steps cells = (p : ℕ) → is_worked cells p ≡ true → list_any (writes p) steps ≡ true

-- the pages that all steps write are those that the script has written and those that are left
abbrev pub IsWorkUpTo : (all rest : List Step) → List Cell → Type 0
IsWorkUpTo all rest cells = (p : ℕ) → list_any (writes p) all ≡ (is_worked cells p || list_any (writes p) rest)

-- each page that the script has written is below the last version
abbrev pub MayRise : List Cell → Type 0
MayRise cells = (p : ℕ) → is_worked cells p ≡ true → (cell_at cells p).version < 2 ^ 64 - 1

-- whether the page of a write is one of so many pages
abbrev pub writes_within : ℕ → Step → Bool
writes_within pages (Read page bytes) = true
writes_within pages (Write page place bytes) = nat_lt page pages
