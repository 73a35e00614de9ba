use Rattle.std.proofs.Common.{sym, ◌∙◌, subst}
use Rattle.install_laws.specs.InstallPlans.{plan_served}
use Rattle.lock_table.specs.Tables.{table_of}
use Rattle.install_plans.specs.Plans.{Plans}
use Rattle.install_plans.proofs.keeping.plan_kept.Goals as goal

pub returns-then-serving-clause-planned : goal.returns-then-serving-clause-planned
returns-then-serving-clause-planned g c = λ d n b pages logs config number seen.
    let t = c.args.t.now in
    subst (λ s. Plans (plan_served s d d.pages c.args.before.now c.args.view.now t.partition n (table_of t)) d b c.plan_served.result) (sym c.if-serving.true ∙ c.serving.ensures)
    (c.plan_served.ensures.planned d n b pages logs config number)

pub returns-clause-planned : goal.returns-clause-planned
returns-clause-planned g c = λ d n b pages logs config number seen.
    let t = c.args.t.now in
    subst (λ s. Plans (plan_served s d d.pages c.args.before.now c.args.view.now t.partition n (table_of t)) d b c.plan_unserved.result) (sym c.if-serving.false ∙ c.serving.ensures)
    (c.plan_unserved.ensures.planned d n b pages logs config number seen)
