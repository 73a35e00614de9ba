use Rattle.std.proofs.Common.{◌≡◌, ◌∙◌, sym, ap, subst}
use Rattle.lock_table.specs.Tables.{TableView, FitsConfig, found, kept_version}
use Rattle.std.proofs.Common.{Some, None, ◌/◌, ◌<◌, length}
use Rattle.lock_table.proofs.Places.{version_made, version_kept, place_within, read_kept}
use Rattle.lock_table.proofs.table.Table.version.Goals as goal

pub returns-in-Some : goal.returns-in-Some
returns-in-Some c =
    let t = c.args.self.now in
    let fits = subst FitsConfig c.self.view_is c.self.invariant in
    let there : found t c.args.page ≡ Some c.in-Some.entry.now = ap (λ (x : TableView). found x c.args.page) (sym c.self.view_is) ∙ sym c.in-Some.ensures.value in
    c.version.ensures ∙ version_made t c.args.page c.in-Some.entry.now fits c.requires there

pub returns-in-None : goal.returns-in-None
returns-in-None c =
    let t = c.args.self.now in
    let fits = subst FitsConfig c.self.view_is c.self.invariant in
    let none : found t c.args.page ≡ None = ap (λ (x : TableView). found x c.args.page) (sym c.self.view_is) ∙ sym c.in-None.ensures.value in
    let within = subst (λ (x : TableView). c.args.page / x.config.nodes < length x.versions) (sym c.self.view_is) (place_within t c.args.page fits c.requires) in
    read_kept _ c.args.page _ _ _ c.index.ensures c.nodes.ensures.value within
    ∙ (ap (λ (x : TableView). kept_version x c.args.page) c.self.view_is ∙ version_kept t c.args.page fits c.requires none)
