use Rattle.std.proofs.Common.{◌≡◌, ◌∙◌, sym, ap, subst}
use Rattle.lock_table.specs.Tables.{TableView, FitsConfig, found}
use Rattle.std.proofs.Common.{Some, None}
use Rattle.lock_table.proofs.Places.{table_tidied}
use Rattle.lock_table.proofs.table.Table.tidy.Goals as goal

pub returns-then-is_idle-clause-table : goal.returns-then-is_idle-clause-table
returns-then-is_idle-clause-table c =
    let t = c.args.self.now in
    let fits = subst FitsConfig c.self.view_is c.self.invariant in
    let there : found t c.args.page ≡ Some c.in-Some.entry.now = ap (λ (x : TableView). found x c.args.page) (sym c.self.view_is) ∙ sym c.in-Some.ensures.value in
    table_tidied t c.give_up.new.self c.args.page c.version-version.result c.in-Some.entry.now fits c.requires there
    (sym c.is_idle.ensures ∙ c.if-is_idle.true) c.version-version.ensures c.give_up.ensures.kept c.give_up.ensures.gone c.give_up.ensures.others
