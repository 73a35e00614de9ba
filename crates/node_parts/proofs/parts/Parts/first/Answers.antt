use Rattle.std.proofs.Common.{[]}
use Rattle.node_parts.proofs.Begun.{first_made, first_sound}
use Rattle.node_parts.proofs.parts.Parts.first.Goals as goal

pub returns-clause-node : goal.returns-clause-node
returns-clause-node c =
    first_made c.args.config.now c.args.me c.in_ok-open.field-0 c.in_ok-view.view c.in_ok-table.table c.in_ok-tables.tables c.put_table.new.self
    (record {
      home = c.in_ok-open.ensures;
      view = c.in_ok-view.ensures.first;
      table = c.in_ok-table.ensures.table;
      empty = c.in_ok-tables.ensures;
      put = c.put_table.ensures.tables;
    })

pub returns-clause-sound : goal.returns-clause-sound
returns-clause-sound c =
    first_sound c.args.config.now c.args.me c.in_ok-open.field-0 c.in_ok-view.view c.in_ok-table.table c.in_ok-tables.tables c.put_table.new.self
    (record {
      home = c.in_ok-open.ensures;
      view = c.in_ok-view.ensures.first;
      table = c.in_ok-table.ensures.table;
      empty = c.in_ok-tables.ensures;
      put = c.put_table.ensures.tables;
    })
    c.requires c.put_table.ensures.places c.in_ok-table.ensures.entries (c.put_table.ensures.tidy [])
