use Rattle.std.proofs.Common.{ap, ◌∙◌}
use Rattle.node_rules.specs.BufferRule.{unpin}
use Rattle.home.proofs.Unpinned.{page_of, may_next, fold_next}
use Rattle.home.proofs.leave.unpin_all.Goals as goal

pub loop-end-preserved : goal.loop-end-preserved
loop-end-preserved c =
    let page = ap page_of (c.end.view_is ∙ c.end-item.is) in
    let changed = c.unpin.ensures.unpinned ∙ ap (unpin c.loop-end.pool) page in
    record {
      rest = fold_next unpin c.args.ends.now c.loop-end.end-index c.end-item.result c.loop-end.pool c.unpin.new.self c.loop-end-test.true changed ∙ c.loop-end.invariant.rest;
      may = may_next c.args.ends.now c.loop-end.end-index c.end-item.result c.loop-end.pool c.unpin.new.self c.loop-end-test.true changed c.loop-end.invariant.may;
    }
