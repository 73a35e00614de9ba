use Rattle.std.proofs.Common.{◌≡◌, ◌++◌, drop}
use Rattle.node_looks.specs.Looks.{waits_in}
use Rattle.node_looks.proofs.looks.add_waiters.Given as goal

abbrev pub invariant-loop-waiter : goal.invariant-loop-waiter
invariant-loop-waiter l = l.items.items ++ waits_in l.page (drop l.waiter-index l.waiting) ≡ l.fn.items.items ++ waits_in l.page l.waiting
