use Rattle.std.proofs.Common.{◌≡◌, Some, None, refl, ap, sym, ◌∙◌}
use Rattle.node_rules.specs.NodeState.{table_at}
use Rattle.node_rules.specs.Reports.{report, own_report}
use Rattle.install_laws.specs.InstallPlans.{PartitionPlan, Stays as stays, IsLeft, left_home, plan_left, unsettled}
use Rattle.install_plans.specs.declared.plan.Turnover.TheVariants.{Stays, Left}
use Rattle.install_plans.specs.declared.plan.TableAfter.TheVariants.{AsBefore, Gone}
use Rattle.install_plans.proofs.Plain.{plain_planned}
use Rattle.install_plans.proofs.Reported.{reported, own_reported, left_reported}
use Rattle.install_plans.proofs.leaving.plan_left.Goals as goal

pub returns-then-not-owned-clause-planned : goal.returns-then-not-owned-clause-planned
returns-then-not-owned-clause-planned c = λ d n home.
    let h = c.args.home.now in
    let shown : c.in_ok-shown.shown ≡ report c.args.q h =
    reported c.args.by.now.config c.args.q h c.txs.result.now c.shelf.result.now.rights c.pool.result.now c.requires c.txs.ensures.value c.shelf.ensures.value c.pool.ensures.value
    c.in_ok-shown.shown (c.in_ok-shown.ensures h.written) in
    ap (λ b. plan_left b c.args.to c.args.q n) c.if-not-owned.true
    ∙ ((λ i. let x : PartitionPlan = record (unsettled stays (table_at n c.args.q)) { told = Some (c.args.to, (ap (report c.args.q) home ∙ sym shown) i) } in x)
    ∙ plain_planned d (table_at n c.args.q) Stays AsBefore (Some (c.args.to, c.in_ok-shown.shown)) c.plain.result c.plain.ensures.parts c.plain.ensures.decisions)

pub returns-clause-planned : goal.returns-clause-planned
returns-clause-planned c = λ d n home.
    let k = c.args.by.now.config in
    let q = c.args.q in
    let h = c.args.home.now in
    let all = c.with_rights_of-all.result in
    let shown : c.in_ok-shown.shown ≡ report q h =
    reported k q h c.txs.result.now c.shelf.result.now.rights c.pool.result.now c.requires c.txs.ensures.value c.shelf.ensures.value c.pool.ensures.value
    c.in_ok-shown.shown (c.in_ok-shown.ensures h.written) in
    let own : c.in_ok-own.own ≡ own_report q h =
    own_reported k q h c.txs-2.result.now h.shelf c.pool-2.result.now c.requires c.txs-2.ensures.value refl c.pool-2.ensures.value
    c.in_ok-own.own (c.in_ok-own.ensures.told h.shelf h.written) in
    let told : report q (left_home q n.home) ≡ all = ap (λ x. report q (left_home q x)) home ∙ left_reported q h c.in_ok-own.own c.in_ok-shown.shown all own shown c.with_rights_of-all.ensures in
    ap (λ b. plan_left b c.args.to q n) c.if-not-owned.false
    ∙ ((λ i. let x : PartitionPlan = record (unsettled IsLeft None) { told = Some (c.args.to, told i) } in x)
    ∙ plain_planned d (table_at n q) Left Gone (Some (c.args.to, all)) c.plain-2.result c.plain-2.ensures.parts c.plain-2.ensures.decisions)
