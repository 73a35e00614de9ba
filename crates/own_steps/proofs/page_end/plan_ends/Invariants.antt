use Rattle.std.proofs.Common.{map, take}
use Rattle.node_parts.specs.State.{node_of}
use Rattle.own_steps.specs.Ends.{AreEndPlans, lock_due}
use Rattle.own_steps.proofs.page_end.plan_ends.Given as goal

abbrev pub invariant-loop-lock : goal.invariant-loop-lock
invariant-loop-lock l = AreEndPlans (node_of l.parts) l.parts.me l.tx (map (lock_due l.commits l.parts.home) (take l.lock-index l.locks)) l.plans.items
