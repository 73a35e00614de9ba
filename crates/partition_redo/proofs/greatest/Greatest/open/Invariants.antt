use Rattle.std.proofs.Common.{◌≡◌, ℕ, ◌<◌, nat_eq, Some, slice_index}
use Rattle.std.specs.Map.{lookup}
use Rattle.partition_redo.proofs.greatest.Greatest.open.Given as goal

abbrev pub invariant-loop-page : goal.invariant-loop-page
invariant-loop-page l = (k : ℕ) → k < l.page-index → lookup (nat_eq (slice_index l.pages k)) l.versions.entries ≡ Some 0
