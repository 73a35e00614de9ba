use Rattle.std.proofs.Common.{◌≡◌, ◌++◌, map, drop}
use Rattle.install_plans.proofs.Settled.{due_of}
use Rattle.install_plans.proofs.settling.add_dues.Given as goal

abbrev pub invariant-loop-decision : goal.invariant-loop-decision
invariant-loop-decision l =
    l.dues.items ++ map (due_of l.page l.version) (drop l.decision-index l.decisions) ≡ l.fn.dues.items ++ map (due_of l.page l.version) l.decisions
