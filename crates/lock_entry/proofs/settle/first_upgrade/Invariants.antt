use Rattle.std.proofs.Common.{◌≡◌, drop}
use Rattle.node_rules.specs.LockRule.{first_upgrade}
use Rattle.lock_entry.proofs.settle.first_upgrade.Given as goal

abbrev pub invariant-loop-waiter : goal.invariant-loop-waiter
invariant-loop-waiter l = first_upgrade l.holders (drop l.waiter-index l.waiting) ≡ first_upgrade l.holders l.waiting
