use Rattle.std.proofs.Common.{◌≡◌, take, length}
use Rattle.disk_model.specs.Memory.{AreCopies}
use Rattle.disk_model.proofs.logs.same_logs.Given as goal

abbrev pub invariant-loop-log : goal.invariant-loop-log
invariant-loop-log l = record {
  copies : AreCopies (take l.log-index l.logs) l.copies.items;
  count : length l.copies.items ≡ l.log-index;
}
