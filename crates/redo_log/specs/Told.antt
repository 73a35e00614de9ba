-- What a storage tells of one log, and of the reading calls of one node.
use Rattle.std.specs.Prelude.{◌≡◌, ℕ, List, Option, Some, None, slice_index_or}
use Rattle.disk_model.specs.Disk.{Logs, told_at}
use Rattle.disk_model.specs.Stops.{Failing}

-- the log of a node is told, and is these bytes
abbrev pub IsLog : Logs → ℕ → List ℕ → Type 0
IsLog logs node log = told_at logs node ≡ Some log

-- no reading call of a node is to fail: the storage tells so
abbrev pub NoneFails : Failing → ℕ → List (Option ℕ) → Type 0
NoneFails failing by l = (failing ≡ Some l) × (slice_index_or l by None ≡ None)
