use Rattle.std.proofs.Common.{sym, subst, ◌∙◌}
use Rattle.node_parts.specs.State.{node_of}
use Rattle.install_plans.proofs.Named.{reports_name_their_own_law}
use Rattle.partition_steps.specs.Carried.{CanCarry}
use Rattle.install_steps.proofs.Readying.{report_can}
use Rattle.install_steps.proofs.Reporting.{taken_comes, untaken_comes}
use Rattle.install_steps.proofs.report.take_report.Goals as goal

pub take_planned-requires-clause-plan : goal.take_planned-requires-clause-plan
take_planned-requires-clause-plan g c =
    let v = c.args.parts.now in
    let r = c.args.report.now in
    let own = reports_name_their_own_law v.home.config r c.requires.body in
    subst (λ o. CanCarry v.home.config v.me r.partition o (g.S.Storage.logs c.plan_report.new.s) c.in-Ok.plan) (sym c.plan_report.ensures.pages)
    (subst (λ o. CanCarry v.home.config v.me r.partition (g.S.Storage.pages c.args.s.now) o c.in-Ok.plan) (sym c.plan_report.ensures.logs)
    (report_can v c.args.from r (g.S.Storage.pages c.args.s.now) (g.S.Storage.logs c.args.s.now) c.in-Ok.plan own.partition c.in-Ok.ensures.fits (λ d stored told. c.in-Ok.ensures.planned d stored told)))

pub returns-in-Err-clause-comes : goal.returns-in-Err-clause-comes
returns-in-Err-clause-comes g c = λ d cs stored told.
    let v = c.args.parts.now in
    let own = reports_name_their_own_law v.home.config c.args.report.now c.requires.body in
    untaken_comes d c.args.from c.args.report.now (node_of v) c.requires.parts.node.places own.partition (Unit {0}) c.in-Err.fault cs c.args.out.now _ (c.in-Err.ensures.planned d stored told)

pub returns-in-Ok-clause-comes : goal.returns-in-Ok-clause-comes
returns-in-Ok-clause-comes g c = λ d cs stored told.
    let v = c.args.parts.now in
    let own = reports_name_their_own_law v.home.config c.args.report.now c.requires.body in
    taken_comes d c.args.from c.args.report.now (node_of v) c.requires.parts.node.places own.partition (Unit {0}) c.in-Ok.plan c.take_planned.result cs c.args.out.now c.take_planned.new.out (node_of c.take_planned.new.parts)
    (c.in-Ok.ensures.planned d stored told) (c.take_planned.ensures.comes d cs (c.plan_report.ensures.pages ∙ stored) (c.plan_report.ensures.logs ∙ told))
