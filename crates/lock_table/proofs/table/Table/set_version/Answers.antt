use Rattle.std.proofs.Common.{◌≡◌, ◌∙◌, sym, ap, subst}
use Rattle.lock_table.specs.Tables.{TableView, FitsConfig, found, table_of}
use Rattle.std.proofs.Common.{None}
use Rattle.lock_table.proofs.Places.{table_version, table_keep, none_of, made_set}
use Rattle.lock_table.proofs.table.Table.set_version.Goals as goal

pub returns-then-contains_key-clause-table : goal.returns-then-contains_key-clause-table
returns-then-contains_key-clause-table c =
    let fits = subst FitsConfig c.self.view_is c.self.invariant in
    table_version c.args.self.now c.args.page c.args.version c.at.result.now c.set_version.new.self fits c.requires c.at.ensures.value c.set_version.ensures

pub returns-clause-table : goal.returns-clause-table
returns-clause-table c =
    let fits = subst FitsConfig c.self.view_is c.self.invariant in
    let none : found c.args.self.now c.args.page ≡ None = ap (λ (x : TableView). found x c.args.page) (sym c.self.view_is) ∙ none_of _ (sym c.contains_key.ensures ∙ c.if-contains_key.false) in
    ap (λ (x : TableView). table_of x) c.keep.ensures ∙ table_keep c.args.self.now c.args.page c.args.version fits c.requires none

pub returns-then-contains_key-clause-made : goal.returns-then-contains_key-clause-made
returns-then-contains_key-clause-made c = λ q. made_set c.args.self.now c.args.page q c.at.result.now c.set_version.new.self c.at.ensures.value
