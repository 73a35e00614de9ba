use Rattle.std.proofs.Common.{◌≡◌}
use Rattle.buffer_pool.specs.Entries.{IsTable}
use Rattle.buffer_pool.proofs.Freed.{freed_below}
use Rattle.buffer_pool.proofs.table.Table.free_places.Given as goal

abbrev pub invariant-loop-frame : goal.invariant-loop-frame
invariant-loop-frame l = record {
  done : l.self ≡ freed_below l.frame l.initial.self;
  sound : IsTable l.self;
}
