-- The source and the sink in memory.
use Rattle.std.specs.Prelude.{ℕ, ◌-◌, ◌==◌, min, Bool, List, length}
use Rattle.std.specs.List.{list_any}
use Rattle.pcl_base.specs.Faults.{one_more}

-- a source: the bytes that are left, the most that one call gives, the numbers of the calls that
-- fail, the number of calls so far, and the count of faults
pub record Giving : Type 0 where
  pub left : List ℕ
  pub piece : ℕ
  pub fail : List ℕ
  pub calls : ℕ
  pub faults : ℕ

-- a sink: the bytes that were written, the most that there is room for, the most that one call
-- takes, the numbers of the calls that fail, the number of calls so far, and the count of faults
pub record Taking : Type 0 where
  pub written : List ℕ
  pub capacity : ℕ
  pub piece : ℕ
  pub fail : List ℕ
  pub calls : ℕ
  pub faults : ℕ

-- whether the next call is one of those that fail
abbrev pub is_due : List ℕ → ℕ → Bool
is_due fail calls = list_any (λ k. k == one_more calls) fail

-- how many bytes a call for `room` bytes gives
abbrev pub given : Giving → ℕ → ℕ
given s room = min (min s.piece room) (length s.left)

-- how many of n bytes a call takes
abbrev pub taken : Taking → ℕ → ℕ
taken s n = min (min s.piece n) (s.capacity - length s.written)
