use Rattle.std.proofs.Common.{◌≡◌, ◌∙◌, sym, ap, subst}
use Rattle.lock_table.specs.Tables.{TableView, FitsConfig, found}
use Rattle.lock_table.proofs.Places.{table_put}
use Rattle.lock_table.proofs.table.Table.put.Goals as goal

pub returns-clause-table : goal.returns-clause-table
returns-clause-table c =
    let fits = subst FitsConfig c.self.view_is c.self.invariant in
    table_put c.args.self.now c.args.page c.args.e fits c.requires.page c.requires.there
