use Rattle.std.proofs.Common.{true, false, refl, ap, sym, ◌∙◌, subst}
use Rattle.node_rules.specs.NodeState.{table_at}
use Rattle.node_rules.specs.InstallRule.{in_view, owned_before}
use Rattle.node_rules.specs.Work.{Goes}
use Rattle.install_laws.specs.InstallPlans.{plan_left}
use Rattle.node_parts.specs.State.{PartsView, node_of}
use Rattle.install_plans.specs.Plans.{Plans}
use Rattle.install_laws.proofs.Words.{not_equal}
use Rattle.install_plans.proofs.Reading.{are_equal, plan_with, stays_planned}
use Rattle.install_plans.proofs.partition.plan_partition.Goals as goal

pub returns-then-new-clause-planned : goal.returns-then-new-clause-planned
returns-then-new-clause-planned g c = λ d pages logs.
    let x = c.args.parts.now in
    let v = c.args.view.now in
    let q = c.args.q in
    let n = in_view v (node_of x) in
    subst (λ o. Plans o d (table_at (node_of x) q) c.plan_get.result)
    (sym (plan_with d d.pages x.view v q c.args.by.now.me n true true c.owner.result c.since.result c.epoch.result c.owner.ensures.value (c.requires.by.me ∙ c.requires.parts.number) c.since.ensures.value c.epoch.ensures.value (are_equal _ _ c.if-own.true) (are_equal _ _ c.if-new.true)))
    (c.plan_get.ensures.planned d n (table_at (node_of x) q) pages logs (ap (λ (y : PartsView). y.home) (sym c.parts.view_is)) refl)

pub returns-then-own-clause-planned : goal.returns-then-own-clause-planned
returns-then-own-clause-planned g c = λ d pages logs.
    let x = c.args.parts.now in
    let v = c.args.view.now in
    let q = c.args.q in
    let n = in_view v (node_of x) in
    subst (λ o. Plans o d (table_at (node_of x) q) c.plan_own.result)
    (sym (plan_with d d.pages x.view v q c.args.by.now.me n true false c.owner.result c.since.result c.epoch.result c.owner.ensures.value (c.requires.by.me ∙ c.requires.parts.number) c.since.ensures.value c.epoch.ensures.value (are_equal _ _ c.if-own.true) (not_equal _ _ c.if-new.false)))
    (c.plan_own.ensures.planned d pages logs)

pub returns-then-new-2-clause-planned : goal.returns-then-new-2-clause-planned
returns-then-new-2-clause-planned g c = λ d pages logs.
    let x = c.args.parts.now in
    let v = c.args.view.now in
    let q = c.args.q in
    let n = in_view v (node_of x) in
    let mine = c.requires.by.me ∙ c.requires.parts.number in
    plan_with d d.pages x.view v q c.args.by.now.me n false true c.owner.result c.since.result c.epoch.result c.owner.ensures.value mine c.since.ensures.value c.epoch.ensures.value (not_equal _ _ c.if-own.false) (are_equal _ _ c.if-new-2.true)
    ∙ ((λ i. Goes (plan_left (owned_before (sym c.parts.view_is i).view q (sym mine i)) (sym c.owner-then-new-2.ensures.value i) q n))
    ∙ ((λ i. Goes (plan_left (sym c.was_owner-owned.ensures i) c.owner-then-new-2.result q n))
    ∙ ap Goes (c.in_ok-plan_left.ensures.planned d n (ap (λ (y : PartsView). y.home) (sym c.parts.view_is)))))

pub returns-then-new-2-clause-fits : goal.returns-then-new-2-clause-fits
returns-then-new-2-clause-fits g c = c.in_ok-plan_left.ensures.fits _ _

pub returns-clause-planned : goal.returns-clause-planned
returns-clause-planned g c = λ d pages logs.
    let x = c.args.parts.now in
    let v = c.args.view.now in
    let q = c.args.q in
    let n = in_view v (node_of x) in
    plan_with d d.pages x.view v q c.args.by.now.me n false false c.owner.result c.since.result c.epoch.result c.owner.ensures.value (c.requires.by.me ∙ c.requires.parts.number) c.since.ensures.value c.epoch.ensures.value (not_equal _ _ c.if-own.false) (not_equal _ _ c.if-new-2.false)
    ∙ stays_planned d (table_at (node_of x) q) c.untouched.result c.untouched.ensures.parts c.untouched.ensures.decisions
