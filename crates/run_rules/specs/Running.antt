-- Running a script on a base, and scripts one after the other.
use Rattle.std.specs.Prelude.{ℕ, ◌+◌, Bool, true, false, ◌==◌, ◌&&◌, ◌-◌, ◌^◌, nat_lt, nat_le, length, List, [], ◌∷◌, Result, Ok, Err}
use Rattle.std.specs.List.{list_any}
use Rattle.pcl_base.specs.declared.script.Step.{Step}
use Rattle.pcl_base.specs.declared.script.Step.TheVariants.{Read, Write}
use Rattle.run_rules.specs.Words.{pick, same_bytes}
use Rattle.run_rules.specs.Base.{BasePage, Base, version_at, bytes_at, put_into}

-- the first read that differs: its place in the script, and the bytes that the page has there
pub record Difference : Type 0 where
  pub place : ℕ
  pub expected : List ℕ

-- The steps over the working pages, from place k of the script on. A read must equal the working
-- page; a write puts its bytes into it.
unfoldable pub worked : Base → ℕ → List Step → Result Base Difference
worked pages k [] = Ok pages
worked pages k (Read page bytes ∷ steps) =
    pick (same_bytes bytes (bytes_at pages page)) (worked pages (k + 1) steps)
    (Err (record { place = k; expected = bytes_at pages page }))
worked pages k (Write page place bytes ∷ steps) = worked (put_into pages page place bytes) (k + 1) steps

-- whether a step writes page p
abbrev pub writes : ℕ → Step → Bool
writes p (Read page bytes) = false
writes p (Write page place bytes) = page == p

-- a page with its version plus one where some step writes it
abbrev pub raised : List Step → ℕ → BasePage → BasePage
raised steps p page = record { version = pick (list_any (writes p) steps) (page.version + 1) page.version; bytes = page.bytes }

-- the pages from number p on, each written one with its version plus one
unfoldable pub raised_from : List Step → ℕ → Base → Base
raised_from steps p [] = []
raised_from steps p (page ∷ pages) = raised steps p page ∷ raised_from steps (p + 1) pages

-- the base that was worked on, with the next versions of the pages that were written
abbrev pub with_versions : List Step → Result Base Difference → Result Base Difference
with_versions steps (Ok pages) = Ok (raised_from steps 0 pages)
with_versions steps (Err d) = Err d

-- Running a script: the base once all steps are done and the written pages have their next
-- versions, or the first read that differs.
abbrev pub run_script : Base → List Step → Result Base Difference
run_script base steps = with_versions steps (worked base 0 steps)

-- the first script with a read that differs, and the place of that read
pub record SerialDifference : Type 0 where
  pub script : ℕ
  pub place : ℕ

-- the scripts from number k on, after one of them has been run
abbrev pub go_on : ℕ → Result Base Difference → (Base → Result Base SerialDifference) → Result Base SerialDifference
go_on k (Ok base) rest = rest base
go_on k (Err d) rest = Err (record { script = k; place = d.place })

unfoldable pub run_from : ℕ → List (List Step) → Base → Result Base SerialDifference
run_from k [] base = Ok base
run_from k (steps ∷ scripts) base = go_on k (run_script base steps) (run_from (k + 1) scripts)

-- running scripts one after the other
abbrev pub run_scripts : Base → List (List Step) → Result Base SerialDifference
run_scripts base scripts = run_from 0 scripts base

-- whether a step's page is one of so many pages, and a write ends within a page of so many bytes
abbrev pub step_fits : (pages size : ℕ) → Step → Bool
step_fits pages size (Read page bytes) = nat_lt page pages
step_fits pages size (Write page place bytes) = nat_lt page pages && nat_le (place + length bytes) size

-- whether the page of a write is below the last version
abbrev pub is_below_last : Base → Step → Bool
is_below_last base (Read page bytes) = true
is_below_last base (Write page place bytes) = nat_lt (version_at base page) (2 ^ 64 - 1)
