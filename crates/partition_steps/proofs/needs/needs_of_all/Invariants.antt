use Rattle.std.proofs.Common.{◌≡◌, drop}
use Rattle.partition_steps.specs.Memory.{both, needs_of_all}
use Rattle.partition_steps.proofs.needs.needs_of_all.Given as goal

abbrev pub invariant-loop-plan : goal.invariant-loop-plan
invariant-loop-plan l = record { rest : both l.all (needs_of_all (drop l.plan-index l.plans)) ≡ needs_of_all l.plans }
