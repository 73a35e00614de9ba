-- The memory for the lists of notes.
use Rattle.std.specs.Prelude.{◌≡◌, ℕ, ◌≤◌, List, [], vec_capacity}
use Rattle.std.specs.List.{All}
use Rattle.trace_entries.specs.declared.blank.Blank.{Blank}

-- lists are empty, and each has room for so many items
pub record IsReady (size : ℕ) (b : Blank) : Type 0 where
  pub readers : (b.readers.items ≡ []) × (size ≤ vec_capacity b.readers)
  pub waits : (b.waits.items ≡ []) × (size ≤ vec_capacity b.waits)
  pub locks : (b.locks.items ≡ []) × (size ≤ vec_capacity b.locks)
  pub rights : (b.rights.items ≡ []) × (size ≤ vec_capacity b.rights)

abbrev pub AreReady : ℕ → List Blank → Type 0
AreReady size bs = All (IsReady size) bs
