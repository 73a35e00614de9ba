use Rattle.std.proofs.Common.{◌≡◌}
use Rattle.tx_table.proofs.Locks.{kinds}
use Rattle.tx_table.proofs.open.set_kinds.Given as goal

abbrev pub invariant-loop-lock : goal.invariant-loop-lock
invariant-loop-lock l = l.locks ≡ kinds l.lock-index l.initial.locks l.page l.kind
