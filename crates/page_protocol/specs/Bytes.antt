-- The bytes of one page, and what accesses do to them.
use Rattle.std.specs.Prelude.{ℕ, ◌+◌, Bool, true, false, cond, ◌≡◌, List, [], ◌∷◌, ◌++◌, take, drop, length}
use Rattle.std.proofs.Common.{suc}

-- A copy of the page.
pub record Copy : Type 0 where
  pub version : ℕ
  pub bytes : List ℕ

-- The page after a piece was put in at its place.
abbrev pub put : ℕ → List ℕ → List ℕ → List ℕ
put place piece page = take place page ++ (piece ++ drop (place + length piece) page)

-- The changed ranges of a log record: places with their bytes.
abbrev pub Ranges : Type 0
Ranges = List (ℕ × List ℕ)

-- The page after ranges were put over it, one after another.
abbrev pub put_all : Ranges → List ℕ → List ℕ
put_all [] page = page
put_all (range ∷ ranges) page = put_all ranges (put range.0 range.1 page)

-- One granted access of a transaction: what it read, or what it wrote and where.
pub data Access : Type 0 where
  Read : (bytes : List ℕ) → Access
  Write : (place : ℕ) (piece : List ℕ) → Access

-- A script, run on a page, meets no read that differs, and leaves this page.
abbrev pub Leaves : List Access → List ℕ → List ℕ → Type 0
Leaves [] before after = before ≡ after
Leaves (Read bytes ∷ script) before after = (bytes ≡ before) × Leaves script before after
Leaves (Write place piece ∷ script) before after = Leaves script (put place piece before) after

-- Whether a script writes.
abbrev pub writes : List Access → Bool
writes [] = false
writes (Read bytes ∷ script) = writes script
writes (Write place piece ∷ script) = true

-- The version that a committed script leaves: one more where it writes.
abbrev pub version_after : List Access → ℕ → ℕ
version_after script version = cond (writes script) (suc version) version

-- Committed scripts, run one after another on one copy, meet no read that differs, and leave this copy.
abbrev pub Replays : List (List Access) → Copy → Copy → Type 0
Replays [] before after = before ≡ after
Replays (script ∷ scripts) before after =
    (page : List ℕ) × Leaves script before.bytes page × Replays scripts (record { version = version_after script before.version; bytes = page }) after
