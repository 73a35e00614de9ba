use Rattle.std.proofs.Common.{◌≡◌, ◌<◌, ◌≤◌, false, ◌∙◌, ap, sym, subst, arith}
use Rattle.lock_table.specs.Tables.{TableView, found, table_of}
use Rattle.install_plans.specs.Tables.{is_wanted}
use Rattle.install_plans.proofs.Settled.{unwanted_put, unwanted_decisions, found_past}
use Rattle.install_plans.proofs.settling.settle_entry.Goals as goal

pub returns-then-not-is_wanted-clause-table : goal.returns-then-not-is_wanted-clause-table
returns-then-not-is_wanted-clause-table c =
    let t = c.args.t.now in
    let within : t.partition < t.config.nodes = subst (λ s. t.partition < s.nodes) c.requires.table.config c.requires.table.partition in
    let some : 1 ≤ t.config.nodes = omega (arith, within) in
    let none : is_wanted (found t c.args.page) ≡ false = sym c.is_wanted.ensures.wanted ∙ c.if-not-is_wanted.true in
    unwanted_put c.args.by.now.me t (table_of c.tidy.new.self) c.args.page some c.requires.page c.is_wanted.ensures.entry none c.tidy.ensures.table

pub returns-then-not-is_wanted-clause-decisions : goal.returns-then-not-is_wanted-clause-decisions
returns-then-not-is_wanted-clause-decisions c =
    let t = c.args.t.now in
    let none : is_wanted (found t c.args.page) ≡ false = sym c.is_wanted.ensures.wanted ∙ c.if-not-is_wanted.true in
    unwanted_decisions c.args.by.now.me t c.args.page c.args.dues.now.items c.is_wanted.ensures.entry none

pub returns-clause-others : goal.returns-clause-others
returns-clause-others c =
    λ p other. c.tidy-2.ensures.others p other
    ∙ (ap (λ (x : TableView). found x p) c.put.ensures.entry ∙ found_past c.args.page p _ c.args.t.now.entries other)
