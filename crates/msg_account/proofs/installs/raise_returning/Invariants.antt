use Rattle.std.proofs.Common.{◌≡◌, ◌-◌}
use Rattle.run_rules.specs.Views.{count_from}
use Rattle.run_rules.specs.Ledger.{raise, returning}
use Rattle.msg_account.proofs.installs.raise_returning.Given as goal

abbrev pub invariant-loop-n : goal.invariant-loop-n
invariant-loop-n l =
    raise (returning l.before l.now (count_from l.n (l.nodes - l.n))) l.up
    ≡ raise (returning l.before l.now (count_from 0 l.nodes)) l.initial.up
