use Rattle.std.proofs.Common.{◌≡◌, ◌++◌, drop}
use Rattle.node_rules.specs.LockRule.{revocations}
use Rattle.lock_entry.proofs.settle.revoke.Given as goal

abbrev pub invariant-loop-right : goal.invariant-loop-right
invariant-loop-right l =
    l.decisions.items ++ revocations (drop l.right-index l.rights) ≡ l.initial.decisions.items ++ revocations l.rights
