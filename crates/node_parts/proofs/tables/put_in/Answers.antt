use Rattle.std.proofs.Common.{Option, Some, None, ◌≡◌, ◌∙◌, ap, subst}
use Rattle.std.specs.Option.{IfSome}
use Rattle.node_rules.specs.LockRule.{LockEntry}
use Rattle.node_rules.specs.Words.{pick}
use Rattle.lock_table.specs.Tables.{TableView, found, is_idle}
use Rattle.node_parts.proofs.Places.{found_put, found_put_past}
use Rattle.node_parts.proofs.tables.put_in.Goals as goal

pub returns-clause-entry : goal.returns-clause-entry
returns-clause-entry c =
    let there : found c.put.new.self c.args.page ≡ Some c.args.entry =
    ap (λ (x : TableView). found x c.args.page) c.put.ensures.entry ∙ found_put c.args.table.now c.args.page c.args.entry c.requires.there in
    subst (λ (o : Option LockEntry). IfSome o (λ e. found c.tidy.new.self c.args.page ≡ pick (is_idle e) None (Some e))) there c.tidy.ensures.given_up

pub returns-clause-others : goal.returns-clause-others
returns-clause-others c =
    λ p other. c.tidy.ensures.others p other
    ∙ (ap (λ (x : TableView). found x p) c.put.ensures.entry ∙ found_put_past c.args.table.now c.args.page p c.args.entry other)
