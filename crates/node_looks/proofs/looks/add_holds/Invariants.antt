use Rattle.std.proofs.Common.{◌≡◌, ◌++◌, drop}
use Rattle.node_looks.specs.Looks.{holds_in}
use Rattle.node_looks.proofs.looks.add_holds.Given as goal

abbrev pub invariant-loop-lock : goal.invariant-loop-lock
invariant-loop-lock l = l.items.items ++ holds_in l.tx (drop l.lock-index l.locks) ≡ l.fn.items.items ++ holds_in l.tx l.locks
