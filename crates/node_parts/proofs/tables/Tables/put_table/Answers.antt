use Rattle.std.proofs.Common.{◌∙◌, ap, set}
use Rattle.std.proofs.lemmas.List.{map-set}
use Rattle.std.specs.Option.{option_map}
use Rattle.lock_table.specs.Tables.{table_of}
use Rattle.node_parts.specs.Tables.{TablesView, lock_tables}
use Rattle.node_parts.proofs.Kept.{counted_table}
use Rattle.node_parts.proofs.tables.Tables.put_table.Goals as goal

pub returns-clause-tables : goal.returns-clause-tables
returns-clause-tables c =
    map-set (option_map table_of) c.self.inside.places.items c.args.q c.args.table
    ∙ ap (λ (v : TablesView). set (lock_tables v.places) c.args.q (option_map table_of c.args.table)) c.self.view_is

pub invariant_of-self : goal.invariant_of-self
invariant_of-self c =
    let v : TablesView = record { config = c.self.inside.config; places = c.self.inside.places.items } in
    counted_table v c.args.self.now c.args.q c.self.inside.count c.count_with_table-count.result c.args.table c.self.view_is c.self.invariant c.requires.q c.requires.table
    (map-set (option_map table_of) c.self.inside.places.items c.args.q c.args.table
    ∙ ap (λ (v : TablesView). set (lock_tables v.places) c.args.q (option_map table_of c.args.table)) c.self.view_is)
    c.count_with_table-count.ensures
