use Rattle.std.proofs.Common.{◌≡◌, ◌<◌, length}
use Rattle.std.specs.List.{AllByRecursion}
use Rattle.std.specs.Vec.Iter.{into_iter_items, into_iter_len}
use Rattle.node_parts.specs.State.{node_of}
use Rattle.page_owner.specs.Planned.{ArePartsBut}
use Rattle.own_steps.specs.Ends.{pages_in}
use Rattle.own_steps.proofs.rooms.give_up_rooms.Given as goal

abbrev pub decreases-loop-plan : goal.decreases-loop-plan
decreases-loop-plan l = into_iter_len l.plans

abbrev pub invariant-loop-plan : goal.invariant-loop-plan
invariant-loop-plan l = record {
  parts : ArePartsBut (pages_in (into_iter_items l.plans)) l.parts;
  below : AllByRecursion (λ x. x.page < l.parts.home.config.pages) (into_iter_items l.plans);
  node : node_of l.parts ≡ node_of l.fn.parts;
  len : into_iter_len l.plans ≡ length (into_iter_items l.plans);
}
