use Rattle.std.proofs.Common.{◌≡◌, ◌+◌, drop}
use Rattle.own_steps.specs.Ends.{decisions_in}
use Rattle.own_steps.proofs.rooms.decisions_in.Given as goal

abbrev pub invariant-loop-plan : goal.invariant-loop-plan
invariant-loop-plan l = l.count + decisions_in (drop l.plan-index l.plans) ≡ decisions_in l.plans
