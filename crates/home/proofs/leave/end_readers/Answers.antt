use Rattle.std.proofs.Common.{ap, ◌∙◌}
use Rattle.node_rules.specs.Shelf.{end_reader}
use Rattle.home.proofs.Unpinned.{page_of, fold_next}
use Rattle.home.proofs.leave.end_readers.Goals as goal

pub loop-end-preserved : goal.loop-end-preserved
loop-end-preserved c =
    let page = ap page_of (c.end.view_is ∙ c.end-item.is) in
    let changed = c.end_reader.ensures.rights ∙ ap (λ p. end_reader c.loop-end.shelf.rights p c.args.tx) page in
    record {
      rest = fold_next (λ rs p. end_reader rs p c.args.tx) c.args.ends.now c.loop-end.end-index c.end-item.result c.loop-end.shelf.rights c.end_reader.new.self.rights c.loop-end-test.true changed ∙ c.loop-end.invariant.rest;
      spare = c.end_reader.ensures.spare ∙ c.loop-end.invariant.spare;
    }
