use Rattle.std.proofs.Common.{◌∙◌, ap, sym, arith}
use Rattle.std.specs.List.{list_all}
use Rattle.run_rules.specs.Views.{count_from}
use Rattle.node_rules.specs.Refusals.{owns_new}
use Rattle.node_looks.proofs.Counted.{count_failed, count_past, count_end}
use Rattle.node_looks.proofs.refusals.owns_new.Goals as goal

pub loop-q-init : goal.loop-q-init
loop-q-init c =
    let all = c.requires in
    ap (λ k. list_all (owns_new c.args.view.now c.args.me) (count_from 0 k)) (omega (arith, all))

pub loop-q-preserved : goal.loop-q-preserved
loop-q-preserved c =
    sym (count_past (owns_new c.args.view.now c.args.me) c.loop-q.q c.args.nodes c.loop-q-test.true (sym c.is_new_or_anothers.ensures ∙ c.if-not-is_new_or_anothers.false))
    ∙ c.loop-q.invariant

pub returns-then-not-is_new_or_anothers : goal.returns-then-not-is_new_or_anothers
returns-then-not-is_new_or_anothers c =
    sym (count_failed (owns_new c.args.view.now c.args.me) c.loop-q.q c.args.nodes c.loop-q-test.true (sym c.is_new_or_anothers.ensures ∙ c.if-not-is_new_or_anothers.true))
    ∙ c.loop-q.invariant

pub returns : goal.returns
returns c = sym (count_end (owns_new c.args.view.now c.args.me) c.loop-q.q c.args.nodes c.loop-q-test.false) ∙ c.loop-q.invariant
