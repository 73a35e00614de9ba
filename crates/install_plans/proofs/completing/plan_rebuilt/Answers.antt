use Rattle.std.proofs.Common.{Some, None, ap, sym, ◌∙◌, subst}
use Rattle.node_rules.specs.Work.{Goes}
use Rattle.install_laws.specs.InstallPlans.{plan_complete, plan_rebuilt, unsettled}
use Rattle.lock_table.specs.Tables.{table_of}
use Rattle.install_plans.specs.declared.plan.TableAfter.TheVariants.{Is}
use Rattle.install_plans.specs.Plans.{Plans, turnover_of}
use Rattle.install_plans.proofs.Plain.{plain_planned}
use Rattle.install_plans.proofs.completing.plan_rebuilt.Goals as goal

pub returns-then-complete-clause-planned : goal.returns-then-complete-clause-planned
unfolding plan_rebuilt
returns-then-complete-clause-planned g c = λ d n t pages logs config number is.
    subst (λ b. Plans (plan_complete b (turnover_of c.args.turnover) d d.pages c.args.table.partition n (table_of c.args.table)) d t c.plan_complete.result)
    (sym (is ∙ c.if-complete.true)) (c.plan_complete.ensures.planned d n t pages logs config number)

pub returns-clause-planned : goal.returns-clause-planned
unfolding plan_rebuilt
returns-clause-planned g c = λ d n t pages logs config number is.
    ap (λ b. plan_complete b (turnover_of c.args.turnover) d d.pages c.args.table.partition n (table_of c.args.table)) (is ∙ c.if-complete.false)
    ∙ (ap (λ u. Goes (unsettled (turnover_of c.args.turnover) (Some u))) (sym c.in_ok-tidy_table.ensures.table)
    ∙ ap Goes (plain_planned d t c.args.turnover (Is c.tidy_table.new.t) None c.plain.result c.plain.ensures.parts c.plain.ensures.decisions))
