use Rattle.std.proofs.Common.{◌≡◌, ℕ, ◌<◌, ◌++◌, nat_eq, Some, slice_index, map, drop, length}
use Rattle.std.specs.Map.{lookup}
use Rattle.partition_redo.proofs.greatest.Greatest.versions.Given as goal

abbrev pub invariant-loop-page : goal.invariant-loop-page
invariant-loop-page l = record {
  len : length l.versions.items ≡ l.page-index;
  all : (f : ℕ → ℕ) → ((k : ℕ) → k < length l.pages → lookup (nat_eq (slice_index l.pages k)) l.self ≡ Some (f (slice_index l.pages k))) → l.versions.items ++ map f (drop l.page-index l.pages) ≡ map f l.pages;
}
