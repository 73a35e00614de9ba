use Rattle.std.proofs.Common.{◌≡◌, ◌++◌, drop}
use Rattle.node_rules.specs.Reports.{locks_in}
use Rattle.rebuild.proofs.reporting.add_locks.Given as goal

abbrev pub invariant-loop-lock : goal.invariant-loop-lock
invariant-loop-lock l =
    l.locks ++ locks_in l.scope.config l.scope.partition l.scope.all l.tx (drop l.lock-index l.held)
    ≡ l.fn.locks ++ locks_in l.scope.config l.scope.partition l.scope.all l.tx l.held
