use Rattle.node_parts.proofs.Begun.{start_made, start_sound}
use Rattle.node_parts.proofs.parts.Parts.start.Goals as goal

pub returns-clause-node : goal.returns-clause-node
returns-clause-node c =
    start_made c.args.config.now c.args.me c.args.epoch c.in_ok-open.field-0 c.in_ok-tables.tables c.in_ok-open.ensures c.in_ok-tables.ensures

pub returns-clause-sound : goal.returns-clause-sound
returns-clause-sound c =
    start_sound c.args.config.now c.args.me c.args.epoch c.in_ok-open.field-0 c.in_ok-tables.tables c.requires c.in_ok-open.ensures c.in_ok-tables.ensures
