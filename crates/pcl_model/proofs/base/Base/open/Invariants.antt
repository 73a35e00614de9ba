use Rattle.std.proofs.Common.{◌≡◌, ◌≤◌, replicate}
use Rattle.std.specs.Vec.{vec_len, vec_capacity}
use Rattle.pcl_model.specs.Cells.{new_cell}
use Rattle.pcl_model.proofs.base.Base.open.Given as goal

abbrev pub invariant-loop : goal.invariant-loop
invariant-loop l =
    record {
      made : l.cells.items ≡ replicate l.counter new_cell;
      count : vec_len l.cells ≡ l.counter;
      room : l.end ≤ vec_capacity l.cells;
    }
