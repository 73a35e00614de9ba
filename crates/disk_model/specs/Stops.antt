-- Stops of changing calls and failing reads, where a storage tells them.
use Rattle.std.specs.Prelude.{ℕ, ◌-◌, ◌==◌, Bool, true, false, nat_le, List, take, length, min, Option, Some, None, slice_index_or, slice_set}
use Rattle.std.specs.Option.{option_map}
use Rattle.disk_model.specs.declared.stop.Stop.{Stop}

-- what becomes of the next call of a node: it is done, it fails and keeps so many bytes, or nothing
-- is told of it
pub data Fate : Type 0 where
  Untold : Fate
  Done : Fate
  Stopped : ℕ → Fate

-- x at true, else y
abbrev pub pick : {X : Type 0} → Bool → X → X → X
pick true x y = x
pick false x y = y

-- each node's armed stop, if it has one
abbrev pub Stops : Type 0
Stops = Option (List (Option Stop))

-- for each node the number of the reading call that fails, if there is one
abbrev pub Failing : Type 0
Failing = Option (List (Option ℕ))

-- an armed stop decides the call that it has come to
abbrev pub stop_fate : Option Stop → Fate
stop_fate None = Done
stop_fate (Some s) = pick (nat_le s.call 1) (Stopped s.kept) Done

-- a stop is one call nearer after each changing call; one that fired is gone
abbrev pub stop_after : Option Stop → Option Stop
stop_after None = None
stop_after (Some s) = pick (nat_le s.call 1) None (Some (record s { call = s.call - 1 }))

-- a failing read fails as soon as it is come to
abbrev pub read_fate : Option ℕ → Fate
read_fate None = Done
read_fate (Some n) = pick (nat_le n 1) (Stopped 0) Done

-- a failing read is one call nearer after each reading call; one that came due is gone
abbrev pub read_after : Option ℕ → Option ℕ
read_after None = None
read_after (Some n) = pick (nat_le n 1) None (Some (n - 1))

-- the fate of a node's next changing call
abbrev pub change_fate : Stops → ℕ → Fate
change_fate None node = Untold
change_fate (Some l) node = stop_fate (slice_index_or l node None)

-- the stops after a changing call of a node
abbrev pub after_change : Stops → ℕ → Stops
after_change stops node = option_map (λ l. slice_set l node (stop_after (slice_index_or l node None))) stops

-- the fate of a node's next reading call
abbrev pub reading_fate : Failing → ℕ → Fate
reading_fate None node = Untold
reading_fate (Some l) node = read_fate (slice_index_or l node None)

-- the failing reads after a reading call of a node
abbrev pub after_read : Failing → ℕ → Failing
after_read failing node = option_map (λ l. slice_set l node (read_after (slice_index_or l node None))) failing

-- what a stopped call other than a force leaves: it is undone where nothing is kept, else done
abbrev pub left_by : {X : Type 0} → ℕ → X → X → X
left_by kept undone done = pick (kept == 0) undone done

-- what a stopped force appends
abbrev pub kept_bytes : ℕ → List ℕ → List ℕ
kept_bytes kept bytes = take (min kept (length bytes)) bytes
