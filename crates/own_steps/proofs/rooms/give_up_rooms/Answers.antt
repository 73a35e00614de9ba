use Rattle.std.proofs.Common.{◌≡◌, ◌∷◌, length, ap, ◌∙◌, arith}
use Rattle.std.specs.Vec.Iter.{into_iter_items}
use Rattle.node_parts.specs.State.{node_of}
use Rattle.own_steps.proofs.MadeRooms.{gave_below, gave_parts}
use Rattle.own_steps.proofs.rooms.give_up_rooms.Goals as goal

pub loop-plan-preserved-in-Some : goal.loop-plan-preserved-in-Some
loop-plan-preserved-in-Some c =
    let plans : into_iter_items c.loop-plan.plans ≡ c.in-Some.plan ∷ into_iter_items c.next.new.self = c.in-Some.ensures.items in
    let gone = c.in-Some.ensures.len in
    let was = c.loop-plan.invariant.len in
    let short = ap length plans in
    record {
      parts = gave_parts (into_iter_items c.loop-plan.plans) (into_iter_items c.next.new.self) c.in-Some.plan c.loop-plan.parts c.give_up_room.new.parts plans c.loop-plan.invariant.parts c.give_up_room.ensures.parts;
      below = gave_below (into_iter_items c.loop-plan.plans) (into_iter_items c.next.new.self) c.in-Some.plan (node_of c.loop-plan.parts) (node_of c.give_up_room.new.parts) plans c.give_up_room.ensures.node c.loop-plan.invariant.below;
      node = c.give_up_room.ensures.node ∙ c.loop-plan.invariant.node;
      len = omega (arith, gone, was, short);
    }

pub loop-plan-preserved : goal.loop-plan-preserved
loop-plan-preserved c =
    let plans : into_iter_items c.loop-plan.plans ≡ c.in-Some.plan ∷ into_iter_items c.next.new.self = c.in-Some.ensures.items in
    let gone = c.in-Some.ensures.len in
    let was = c.loop-plan.invariant.len in
    let short = ap length plans in
    record {
      parts = gave_parts (into_iter_items c.loop-plan.plans) (into_iter_items c.next.new.self) c.in-Some.plan c.loop-plan.parts c.give_up_room.new.parts plans c.loop-plan.invariant.parts c.give_up_room.ensures.parts;
      below = gave_below (into_iter_items c.loop-plan.plans) (into_iter_items c.next.new.self) c.in-Some.plan (node_of c.loop-plan.parts) (node_of c.give_up_room.new.parts) plans c.give_up_room.ensures.node c.loop-plan.invariant.below;
      node = c.give_up_room.ensures.node ∙ c.loop-plan.invariant.node;
      len = omega (arith, gone, was, short);
    }
