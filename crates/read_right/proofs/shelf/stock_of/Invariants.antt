use Rattle.std.proofs.Common.{◌≡◌, ◌≤◌, length, vec_capacity}
use Rattle.std.specs.List.{All}
use Rattle.read_right.proofs.shelf.stock_of.Given as goal

abbrev pub invariant-loop-made : goal.invariant-loop-made
invariant-loop-made l = record {
  count : length l.stock.items ≡ l._made;
  empty : All (λ w. length w.items ≡ 0) l.stock.items;
  wide : All (λ w. l.room ≤ vec_capacity w) l.stock.items;
}
