use Rattle.std.proofs.Common.{◌≡◌, ◌++◌, drop}
use Rattle.install_plans.proofs.keeping.live_flags.Given as goal

abbrev pub invariant-loop-node : goal.invariant-loop-node
invariant-loop-node l = l.live.items ++ drop l.node l.view.live ≡ l.view.live
