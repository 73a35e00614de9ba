use Rattle.std.proofs.Common.{refl, ◌∙◌}
use Rattle.node_parts.specs.State.{node_of}
use Rattle.own_steps.specs.Ends.{HasEntry}
use Rattle.own_steps.proofs.MadeRooms.{all_next, all_over, all_tidy_but, item_below, item_owned, made_among, view_then}
use Rattle.own_steps.proofs.rooms.make_rooms.Goals as goal

pub loop-plan-init : goal.loop-plan-init
loop-plan-init c = record {
  parts = all_tidy_but c.args.parts.now c.args.plans.now c.requires.parts;
  rooms = tt;
  node = refl;
  view = record { me = refl; epoch = refl; view = refl };
}

pub make_room-requires-clause-page : goal.make_room-requires-clause-page
make_room-requires-clause-page c =
    item_below (node_of c.loop-plan.parts) (node_of c.args.parts.now) c.args.plans.now c.loop-plan.plan-index c.plan-item.result c.plan-item.is c.loop-plan-test.true c.loop-plan.invariant.node c.requires.below

pub make_room-requires-clause-own : goal.make_room-requires-clause-own
make_room-requires-clause-own c =
    item_owned (node_of c.loop-plan.parts) (node_of c.args.parts.now) c.args.plans.now c.loop-plan.plan-index c.plan-item.result c.plan-item.is c.loop-plan-test.true c.loop-plan.invariant.node c.requires.own

pub returns-in_err-make_room-clause-parts : goal.returns-in_err-make_room-clause-parts
returns-in_err-make_room-clause-parts c =
    made_among c.make_room.new.parts c.args.plans.now c.loop-plan.plan-index c.plan-item.result c.plan-item.is c.loop-plan-test.true (c.make_room.ensures.parts _ c.loop-plan.invariant.parts)

pub loop-plan-preserved : goal.loop-plan-preserved
loop-plan-preserved c = record {
  parts = made_among c.make_room.new.parts c.args.plans.now c.loop-plan.plan-index c.plan-item.result c.plan-item.is c.loop-plan-test.true (c.make_room.ensures.parts _ c.loop-plan.invariant.parts);
  rooms = all_next c.loop-plan.parts.tables c.make_room.new.parts.tables c.args.plans.now c.loop-plan.plan-index c.plan-item.result c.plan-item.is c.loop-plan-test.true c.make_room.ensures.others c.loop-plan.invariant.rooms c.in_ok-make_room.ensures.room;
  node = c.make_room.ensures.node ∙ c.loop-plan.invariant.node;
  view = view_then _ _ _ c.loop-plan.invariant.view c.make_room.ensures.view;
}

pub returns-clause-rooms : goal.returns-clause-rooms
returns-clause-rooms c = all_over (HasEntry c.loop-plan.parts.tables) c.args.plans.now c.loop-plan.plan-index c.loop-plan-test.false c.loop-plan.invariant.rooms
