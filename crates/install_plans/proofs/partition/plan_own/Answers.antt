use Rattle.std.proofs.Common.{◌≡◌, Some, refl, ap, sym, ◌∙◌, subst}
use Rattle.node_rules.specs.NodeState.{table_at}
use Rattle.node_rules.specs.InstallRule.{in_view}
use Rattle.install_laws.specs.InstallPlans.{plan_kept, plan_served}
use Rattle.lock_table.specs.Tables.{table_of}
use Rattle.node_parts.specs.State.{PartsView, node_of}
use Rattle.node_parts.specs.Tables.{place_at}
use Rattle.install_plans.specs.Plans.{Plans}
use Rattle.install_plans.proofs.Reading.{table_there}
use Rattle.install_plans.proofs.partition.plan_own.Goals as goal

pub returns-in-Some-clause-planned : goal.returns-in-Some-clause-planned
returns-in-Some-clause-planned g c = λ d pages logs.
    let v = c.args.parts.now in
    let q = c.args.q in
    let t = c.in-Some.table.now in
    let there : table_at (node_of v) q ≡ Some (table_of t) =
    table_there v q (Some t) (ap (λ (x : PartsView). place_at x.tables.places q) (sym c.parts.view_is) ∙ sym c.in-Some.ensures.value) in
    subst (λ o. Plans (plan_kept o d d.pages v.view c.args.view.now q (in_view c.args.view.now (node_of v))) d (table_at (node_of v) q) c.plan_kept.result) (sym there)
    (subst (λ p. Plans (plan_served t.serving d d.pages v.view c.args.view.now p (in_view c.args.view.now (node_of v)) (table_of t)) d (table_at (node_of v) q) c.plan_kept.result) c.in-Some.ensures.place.partition
    (subst (λ (x : PartsView). Plans (plan_served t.serving d d.pages x.view c.args.view.now t.partition (in_view c.args.view.now (node_of v)) (table_of t)) d (table_at (node_of v) q) c.plan_kept.result) c.parts.view_is
    (c.plan_kept.ensures.planned d (in_view c.args.view.now (node_of v)) (table_at (node_of v) q) pages logs (sym c.requires.by.config) (sym (c.requires.by.me ∙ c.requires.parts.number)) refl)))
