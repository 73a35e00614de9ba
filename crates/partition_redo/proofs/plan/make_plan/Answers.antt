use Rattle.std.proofs.Common.{◌<◌, ◌∙◌, List, ap}
use Rattle.partition_redo.specs.declared.site.Chain.{Chain}
use Rattle.partition_redo.specs.Chains.{written_pages}
use Rattle.partition_redo.proofs.Leading.{by_recursion}
use Rattle.partition_redo.proofs.Standing.{given_pages, pages_below}
use Rattle.partition_redo.proofs.plan.make_plan.Goals as goal

pub invariant_of-result : goal.invariant_of-result
invariant_of-result c =
    let named = given_pages c.args.index.now c.args.pages.now c.in_ok-chains.chains c.in_ok-chains.ensures in
    let below = by_recursion (λ p. p < c.args.config.now.pages) c.args.pages.now c.requires.below in
    (c.requires.length, c.requires.by, pages_below c.args.config.now.pages c.args.pages.now c.in_ok-chains.chains named below, c.in_ok-writes.ensures ∙ ap (λ (xs : List Chain). written_pages xs) c.as_slice-2.ensures)
