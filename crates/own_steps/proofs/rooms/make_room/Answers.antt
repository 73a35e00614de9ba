use Rattle.std.proofs.Common.{sym, subst}
use Rattle.node_parts.specs.contracts.parts.Parts.{the_view}
use Rattle.page_owner.specs.Planned.{ArePartsBut}
use Rattle.own_steps.proofs.MadeRooms.{made_parts}
use Rattle.own_steps.proofs.rooms.make_room.Goals as goal

pub returns-clause-parts : goal.returns-clause-parts
returns-clause-parts c = λ ps is.
    made_parts c.make.result (the_view c.parts.inside) c.args.plan.now.page c.make.new.self c.make.ensures.tables c.make.ensures.config c.make.ensures.tidy c.make.ensures.err ps
    (subst (ArePartsBut ps) (sym c.parts.view_is) is)
