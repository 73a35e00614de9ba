-- The counts of a storage's faults, one for each kind of call.
use Rattle.std.specs.Prelude.{ℕ, ◌≤◌, Result, OnErr}
use Rattle.pcl_base.specs.declared.trace.Call.{Call}
use Rattle.pcl_base.specs.Faults.{Rose}

-- a count for each kind
abbrev pub Counts : Type 0
Counts = Call → ℕ

-- no count falls, and a failed call raises that of its kind
pub record HasCauses {T E : Type 0} (kind : Call) (before now : Counts) (result : Result T E) : Type 0 where
  pub later : (k : Call) → before k ≤ now k
  pub failed : OnErr result (Rose (before kind) (now kind))
