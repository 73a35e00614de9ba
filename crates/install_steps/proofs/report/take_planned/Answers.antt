use Rattle.install_steps.proofs.Ending.{reported_parts}
use Rattle.install_steps.proofs.report.take_planned.Goals as goal

pub returns-in-Ok-carry-clause-parts : goal.returns-in-Ok-carry-clause-parts
returns-in-Ok-carry-clause-parts g c =
    reported_parts c.args.parts.now c.carry.new.parts c.args.q c.args.plan
    (record {
      parts = c.requires.parts;
      turning = c.carry.ensures.turning;
      places = c.in-Ok-carry.ensures.places;
      same_view = c.carry.ensures.view;
      same_node = c.carry.ensures.same;
      low = c.requires.q;
      keeps = c.in-Ok.ensures.table;
    })
