use Rattle.std.proofs.Common.{rules, ◌≡◌, ◌++◌, Option, Some, Err, ap, sym, subst, ◌∙◌}
use Rattle.partition_redo.specs.Chains.{PlannedView}
use Rattle.redo_log.specs.Told.{NoneFails}
use Rattle.node_parts.specs.contracts.parts.Parts.{the_view}
use Rattle.node_parts.specs.Comes.{work_of}
use Rattle.node_parts.specs.State.{PartsView, node_of}
use Rattle.page_owner.specs.Carry.{halted_by}
use Rattle.page_owner.specs.Writes.{after_calls}
use Rattle.partition_steps.specs.Carried.{plan_calls, redo_calls}
use Rattle.partition_steps.proofs.Finishing.{carried_comes}
use Rattle.partition_steps.proofs.carrying.carry.Goals as goal

pub returns-in_err-write_redo-clause-listed : goal.returns-in_err-write_redo-clause-listed
returns-in_err-write_redo-clause-listed g c = c.write_redo.ensures.listed c.args.memory.now.list c.turn.ensures.listed

pub returns-in_err-write_redo-clause-quiet : goal.returns-in_err-write_redo-clause-quiet
returns-in_err-write_redo-clause-quiet g c = λ l k none halted.
    let same : c.from_residual.result ≡ Err c.in_err-write_redo.field-0.0 = search rules in
    let node : c.turn.new.home.txs.node ≡ c.args.parts.now.me = c.turn.ensures.same.node ∙ ap (λ (v : PartsView). v.home.txs.node) c.parts.view_is ∙ sym c.requires.turning.number in
    c.in_err-write_redo.ensures.quiet l k (subst (λ m. NoneFails (g.S.Storage.failing c.args.s.now) m l) (sym node) none) (ap halted_by (sym same) ∙ halted)

pub returns-clause-comes : goal.returns-clause-comes
returns-clause-comes g c = λ d cs p l.
    let u : PartsView = the_view c.parts.inside in
    let ps = after_calls d.pages (plan_calls d c.args.plan) in
    let done : g.S.Storage.pages c.write_redo.new.s ≡ Some ps =
    c.in_ok-write_redo.ensures.done d p l ∙ ap (λ (o : Option PlannedView). Some (after_calls d.pages (redo_calls d o))) c.take.ensures.value in
    carried_comes (Unit {0}) c.finish.result u c.args.parts.now c.args.q d c.args.plan c.take.result c.turn.new.home c.write_redo.new.home cs c.args.out.now
    (work_of (node_of c.finish.new.parts) ps (cs ++ plan_calls d c.args.plan) c.finish.new.out)
    c.parts.view_is c.take.ensures.value c.turn.ensures.home (c.in_ok-write_redo.ensures.home d p l) (c.finish.ensures.comes ps (cs ++ plan_calls d c.args.plan) done)

pub returns-clause-listed : goal.returns-clause-listed
returns-clause-listed g c = c.finish.ensures.listed c.args.memory.now.list (c.write_redo.ensures.listed c.args.memory.now.list c.turn.ensures.listed)
