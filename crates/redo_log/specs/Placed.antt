-- The changed pages of the whole records of a log, one after another, each with its place.
use Rattle.std.specs.Prelude.{◌≡◌, ℕ, ◌+◌, Bool, List, [], ◌∷◌, ◌++◌, length}
use Rattle.std.specs.List.{Contains}
use Rattle.pcl_base.specs.Limits.{Sizes}
use Rattle.pcl_base.specs.declared.log.Record.{Record}
use Rattle.pcl_base.specs.declared.log.Logged.{Logged}
use Rattle.pcl_base.specs.declared.log.Seen.{Seen}
use Rattle.text_rules.specs.LogRecord.{is_whole, logged_bytes, record_bytes, records_of}

-- a changed page of a record, the place in the log of the first byte of its entry, and the length of
-- the whole records all of whose pages are answered once it is
pub record Placed : Type 0 where
  pub place : ℕ
  pub entry : Logged
  pub whole : ℕ

-- what a walk answers of it
abbrev pub seen_of : Placed → Seen
seen_of x = record { page = x.entry.page; version = x.entry.version; place = x.place; whole = is_whole x.entry.part }

-- the record of a changed page is answered where no more pages of it follow
abbrev pub whole_at : ℕ → ℕ → List Logged → ℕ
whole_at start end [] = end
whole_at start end (x ∷ xs) = start

-- changed pages of a record that begins at `start` and ends at `end`, the first at a place
abbrev pub placed_in : ℕ → ℕ → ℕ → List Logged → List Placed
placed_in start end place [] = []
placed_in start end place (x ∷ xs) =
    record { place = place; entry = x; whole = whole_at start end xs } ∷ placed_in start end (place + length (logged_bytes x)) xs

-- the changed pages of records, the first of which begins at a place; the pages of a record begin
-- behind its length, mark, transaction and count
abbrev pub placed_from : ℕ → List Record → List Placed
placed_from place [] = []
placed_from place (r ∷ rs) =
    placed_in place (place + length (record_bytes r)) (place + 17) r.changes ++ placed_from (place + length (record_bytes r)) rs

-- the changed pages of the whole records of a log
unfoldable pub placed_of : Sizes → List ℕ → List Placed
placed_of c log = placed_from 0 (records_of c log)

-- a changed page of the whole records of a log that stands at a place, in format 1 (true) or 2
pub record IsPlaced (c : Sizes) (log : List ℕ) (place : ℕ) (whole : Bool) (x : Placed) : Type 0 where
  pub among : Contains (placed_of c log) x
  pub there : x.place ≡ place
  pub format : is_whole x.entry.part ≡ whole
