use Rattle.std.proofs.Common.{◌≡◌, replicate}
use Rattle.disk_model.specs.Memory.{no_log}
use Rattle.disk_model.proofs.logs.empty_logs.Given as goal

abbrev pub invariant-loop-node : goal.invariant-loop-node
invariant-loop-node l = l.logs.items ≡ replicate l._node no_log
