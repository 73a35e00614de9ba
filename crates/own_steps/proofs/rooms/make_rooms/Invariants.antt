use Rattle.std.proofs.Common.{◌≡◌, take}
use Rattle.std.specs.List.{AllByRecursion}
use Rattle.node_parts.specs.State.{node_of}
use Rattle.page_owner.specs.Planned.{ArePartsBut, SameView}
use Rattle.own_steps.specs.Ends.{HasEntry, pages_in}
use Rattle.own_steps.proofs.rooms.make_rooms.Given as goal

abbrev pub invariant-loop-plan : goal.invariant-loop-plan
invariant-loop-plan l = record {
  parts : ArePartsBut (pages_in l.plans) l.parts;
  rooms : AllByRecursion (HasEntry l.parts.tables) (take l.plan-index l.plans);
  node : node_of l.parts ≡ node_of l.fn.parts;
  view : SameView l.fn.parts l.parts;
}
