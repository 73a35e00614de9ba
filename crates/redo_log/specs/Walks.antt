-- Where a walk over a log stands, and what it has still to answer.
use Rattle.std.specs.Prelude.{◌≡◌, ℕ, ◌+◌, ◌≤◌, Bool, true, false, List, [], ◌∷◌, ◌++◌, length, drop, slice_range, Option, Some, None, Result, Ok, Err}
use Rattle.pcl_base.specs.Limits.{Sizes}
use Rattle.pcl_base.specs.declared.log.Logged.{Logged}
use Rattle.pcl_base.specs.declared.log.Seen.{Seen}
use Rattle.text_rules.specs.FieldBytes.{Stop}
use Rattle.text_rules.specs.LogRecord.{changes_field, records_of, whole_len}
use Rattle.redo_log.specs.Placed.{Placed, seen_of, placed_in, placed_from}

-- a reader of the log of a node: it stands at a place and reads up to a limit; the log ends at
-- `end`, and a piece of it, from place `from` on, is at hand
pub record Reading : Type 0 where
  pub node : ℕ
  pub place : ℕ
  pub limit : ℕ
  pub end : ℕ
  pub from : ℕ
  pub piece : List ℕ

-- the bytes that are left to be read
abbrev pub left_of : Reading → List ℕ → List ℕ
left_of r log = slice_range log r.place r.limit

-- the limit is within the log, and the piece is the log's
pub record Reads (r : Reading) (log : List ℕ) : Type 0 where
  pub within : r.limit ≤ length log
  pub end : r.end ≡ length log
  pub piece_within : r.from + length r.piece ≤ length log
  pub piece : r.piece ≡ slice_range log r.from (r.from + length r.piece)

-- what is left behind a field, where it was read
abbrev pub rest_of : {X : Type 0} → Result (X × List ℕ) Stop → Option (List ℕ)
rest_of (Ok p) = Some p.1
rest_of (Err s) = None

-- the changed pages that were read
abbrev pub changes_in : Result (List Logged × List ℕ) Stop → List Logged
changes_in (Ok p) = p.0
changes_in (Err s) = []

-- a walk: so many entries of a record are left, from the reader's place on up to its limit, where
-- the record ends; they are numbered `low` or higher and of format 1 (true) or 2; `whole` is the
-- length of the whole records all of whose pages were answered
pub record Standing : Type 0 where
  pub config : Sizes
  pub reading : Reading
  pub is_measured : Bool
  pub whole : ℕ
  pub pending : ℕ
  pub low : ℕ
  pub format : Bool

-- the node whose log is walked
abbrev pub node_of : Standing → ℕ
node_of w = w.reading.node

-- a walk that has answered nothing
abbrev pub opened : Sizes → ℕ → Standing
opened c node = record {
  config = c;
  reading = record { node = node; place = 0; limit = 0; end = 0; from = 0; piece = [] };
  is_measured = false;
  whole = 0;
  pending = 0;
  low = 0;
  format = false;
}

-- the entries that are left of the record
abbrev pub pending_of : Standing → List ℕ → Result (List Logged × List ℕ) Stop
pending_of w log = changes_field w.config w.format w.low w.pending (left_of w.reading log)

-- what a walk has still to answer of a log
unfoldable pub to_come : Standing → List ℕ → List Placed
to_come w log =
    placed_in w.whole w.reading.limit w.reading.place (changes_in (pending_of w log))
    ++ placed_from w.reading.limit (records_of w.config (drop w.reading.limit log))

-- a walk over a log that hasn't changed since it was opened
pub record Stands (w : Standing) (log : List ℕ) : Type 0 where
  pub fresh : w.is_measured ≡ false → w ≡ opened w.config w.reading.node
  pub reads : w.is_measured ≡ true → Reads w.reading log
  pub pending : rest_of (pending_of w log) ≡ Some []
  pub between : w.pending ≡ 0 → w.whole ≡ w.reading.limit
  pub whole : whole_len w.config log ≡ w.reading.limit + whole_len w.config (drop w.reading.limit log)

-- the next answer of a walk, if there is one
abbrev pub first_seen : List Placed → Option Seen
first_seen [] = None
first_seen (x ∷ xs) = Some (seen_of x)

-- what is to come behind the next answer
abbrev pub after_first : List Placed → List Placed
after_first [] = []
after_first (x ∷ xs) = xs

-- the length of the whole records that were answered, once the next answer was given
abbrev pub whole_after : ℕ → List Placed → ℕ
whole_after whole [] = whole
whole_after whole (x ∷ xs) = x.whole
