use Rattle.std.proofs.Common.{◌≡◌, drop}
use Rattle.node_rules.specs.OpenTxs.{lock_on}
use Rattle.home.proofs.leave.holds.Given as goal

abbrev pub invariant-loop-lock : goal.invariant-loop-lock
invariant-loop-lock l = lock_on (drop l.lock-index l.locks) l.page ≡ lock_on l.locks l.page
