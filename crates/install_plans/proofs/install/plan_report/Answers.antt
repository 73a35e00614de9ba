use Rattle.std.proofs.Common.{◌≡◌, Some, None, ap, sym, ◌∙◌, subst}
use Rattle.node_rules.specs.NodeState.{table_at}
use Rattle.node_rules.specs.Reports.{gather}
use Rattle.install_laws.specs.InstallPlans.{Stays, plan_rebuilt}
use Rattle.lock_table.specs.Tables.{table_of}
use Rattle.node_parts.specs.State.{PartsView, node_of}
use Rattle.node_parts.specs.Tables.{place_at}
use Rattle.install_plans.specs.Plans.{Plans}
use Rattle.install_plans.proofs.Reading.{table_there, no_table, stays_planned, report_none, report_served, report_taken}
use Rattle.install_plans.proofs.install.plan_report.Goals as goal

pub returns-in_default-clause-planned : goal.returns-in_default-clause-planned
returns-in_default-clause-planned g c = λ d pages logs.
    let x = c.args.parts.now in
    let q = c.args.report.now.partition in
    let none : table_at (node_of x) q ≡ None = no_table x q c.requires.parts c.requires.report.partition (ap (λ (y : PartsView). y.view) (sym c.parts.view_is) ∙ c.in_default.is) in
    report_none d c.args.from c.args.report.now (node_of x) none
    ∙ stays_planned d (table_at (node_of x) q) c.untouched.result c.untouched.ensures.parts c.untouched.ensures.decisions

pub returns-in_default-at-clause-planned : goal.returns-in_default-at-clause-planned
returns-in_default-at-clause-planned g c = λ d pages logs.
    let x = c.args.parts.now in
    let q = c.args.report.now.partition in
    let none : table_at (node_of x) q ≡ None = table_there x q None (ap (λ (y : PartsView). place_at y.tables.places q) (sym c.parts.view_is) ∙ sym c.in_default-at.ensures.value) in
    report_none d c.args.from c.args.report.now (node_of x) none
    ∙ stays_planned d (table_at (node_of x) q) c.untouched-in_default-at.result c.untouched-in_default-at.ensures.parts c.untouched-in_default-at.ensures.decisions

pub returns-then-serving-clause-planned : goal.returns-then-serving-clause-planned
returns-then-serving-clause-planned g c = λ d pages logs.
    let x = c.args.parts.now in
    let q = c.args.report.now.partition in
    let t = c.in-Some-at.table.now in
    let there : table_at (node_of x) q ≡ Some (table_of t) =
    table_there x q (Some t) (ap (λ (y : PartsView). place_at y.tables.places q) (sym c.parts.view_is) ∙ sym c.in-Some-at.ensures.value) in
    report_served d c.args.from c.args.report.now (node_of x) (table_of t) there (sym c.serving.ensures ∙ c.if-serving.true)
    ∙ stays_planned d (table_at (node_of x) q) c.untouched-then-serving.result c.untouched-then-serving.ensures.parts c.untouched-then-serving.ensures.decisions

pub returns-clause-planned : goal.returns-clause-planned
returns-clause-planned g c = λ d pages logs.
    let x = c.args.parts.now in
    let r = c.args.report.now in
    let q = r.partition in
    let t = c.in-Some-at.table.now in
    let there : table_at (node_of x) q ≡ Some (table_of t) =
    table_there x q (Some t) (ap (λ (y : PartsView). place_at y.tables.places q) (sym c.parts.view_is) ∙ sym c.in-Some-at.ensures.value) in
    subst (λ o. Plans o d (table_at (node_of x) q) c.plan_gathered.result)
    (sym (report_taken d c.args.from r (node_of x) (table_of t) there (sym c.serving.ensures ∙ c.if-serving.false)))
    (subst (λ p. Plans (plan_rebuilt Stays d d.pages p (node_of x) (gather (table_of t) c.args.from r)) d (table_at (node_of x) q) c.plan_gathered.result) c.in-Some-at.ensures.place.partition
    (c.plan_gathered.ensures.planned d (node_of x) (table_at (node_of x) q) pages logs (sym c.planner_of-by.ensures.config) (sym (c.planner_of-by.ensures.me ∙ c.requires.parts.number))
    (ap (λ (y : PartsView). y.view) (sym c.parts.view_is) ∙ c.in-Some.is)))
