use Rattle.std.proofs.Common.{◌<◌, ◌∙◌, length, arith, sym, le_trans}
use Rattle.cluster_rules.specs.Links.{clear_into}
use Rattle.link_model.proofs.LinksLemmas.{one_more_cleared, more_cleared, whole_cleared, lower_nowhere}
use Rattle.link_model.proofs.links.clear_all.Goals as goal

pub loop-row-preserved : goal.loop-row-preserved
loop-row-preserved c =
    let less : c.loop-row.row-index < length c.loop-row.rows = omega (arith, c.loop-row-test.true, c.loop-row.auto.rows) in (
      one_more_cleared c.loop-row.rows c.loop-row.row-index c.args.to c.clear.new.self c.row-item.result less c.clear.ensures.messages ∙ c.loop-row.invariant.0,
      more_cleared c.loop-row.rows c.loop-row.row-index c.args.to c.clear.new.self c.row-item.result less c.clear.ensures.messages c.loop-row.invariant.1,
      λ a b. le_trans (c.loop-row.invariant.2 a b) (lower_nowhere c.loop-row.rows c.loop-row.row-index c.clear.new.self c.row-item.result less c.clear.ensures.spares a b),
    )

pub returns-clause-links : goal.returns-clause-links
unfolding clear_into
returns-clause-links c =
    sym (whole_cleared c.loop-row.rows c.args.to (λ k under. c.loop-row.invariant.1 k (omega (arith, under, c.loop-row-test.false, c.loop-row.auto.rows))))
    ∙ c.loop-row.invariant.0
