use Rattle.std.proofs.Common.{rules, ◌≡◌, Err, refl, sym, subst}
use Rattle.node_rules.specs.NodeState.{NodeState, table_at}
use Rattle.install_laws.specs.InstallPlans.{tell}
use Rattle.install_plans.specs.Plans.{table_after}
use Rattle.home.specs.Moves.{Lists}
use Rattle.node_parts.specs.contracts.parts.Parts.{the_view}
use Rattle.node_parts.specs.Comes.{Comes, work_of}
use Rattle.node_parts.specs.State.{PartsView, node_of}
use Rattle.node_parts.specs.Tables.{lock_tables}
use Rattle.partition_steps.specs.Carried.{finished}
use Rattle.partition_steps.proofs.Finishing.{decisions_first, so_failed}
use Rattle.partition_steps.proofs.finish.finish.Goals as goal

pub returns-in_err-carry_dues-clause-comes : goal.returns-in_err-carry_dues-clause-comes
returns-in_err-carry_dues-clause-comes g c = λ ps cs told.
    let u : PartsView = the_view c.parts.inside in
    let n : NodeState = record (node_of u) { tables = lock_tables c.put_after.new.tables.places } in
    let after = work_of (record n { home = c.carry_dues.new.home }) ps cs c.carry_dues.new.out in
    let p = c.args.plan in
    let same : c.from_residual.result ≡ Err c.in_err-carry_dues.field-0.0 = search rules in
    subst (λ r. Comes {T = Unit {0}} (finished c.args.q (table_after p.table (table_at (node_of c.args.parts.now) c.args.q)) p.begins p.decisions.items p.report (work_of (node_of c.args.parts.now) ps cs c.args.out.now)) r after) (sym same)
    (so_failed (Unit {0}) (Unit {0}) _ (tell p.report) c.in_err-carry_dues.field-0.0 after after
    (subst (λ o. Comes {T = Unit {0}} o (Err c.in_err-carry_dues.field-0.0) after)
    (sym (decisions_first u c.args.parts.now c.args.q p.table c.put_after.new.tables p.begins p.decisions.items c.as_slice-dues.result.now c.args.out.now c.reply_serving.new.out c.parts.view_is c.put_after.ensures.tables c.as_slice-dues.ensures.value c.reply_serving.ensures.told ps cs))
    (c.in_err-carry_dues.ensures.told n ps cs refl told)))

pub returns-in_err-carry_dues-clause-listed : goal.returns-in_err-carry_dues-clause-listed
returns-in_err-carry_dues-clause-listed g c = λ list is. c.carry_dues.ensures.listed list (subst (λ (v : PartsView). Lists list v.home) (sym c.parts.view_is) is)

pub returns-clause-listed : goal.returns-clause-listed
returns-clause-listed g c = λ list is. c.carry_dues.ensures.listed list (subst (λ (v : PartsView). Lists list v.home) (sym c.parts.view_is) is)
