use Rattle.std.proofs.Common.{◌≡◌, ℕ, get_or, ap, ◌∙◌}
use Rattle.node_rules.specs.OpenTxs.{held_by}
use Rattle.node_rules.specs.BufferRule.{publish}
use Rattle.node_rules.specs.EndRule.{is_own_lock}
use Rattle.home.proofs.Committing.{publish_next, fold_rest}
use Rattle.home.proofs.publish.publish_all.Goals as goal

pub loop-page-preserved : goal.loop-page-preserved
loop-page-preserved c =
    let page : ℕ = get_or c.args.pages.now c.loop-page.page-index 0 in
    let changed : c.publish.new.self ≡ publish c.loop-page.pool c.args.tx page (is_own_lock (held_by c.args.txs.now c.args.tx page)) =
    c.publish.ensures.published ∙ ap (publish c.loop-page.pool c.args.tx page) c.is_own.ensures in
    record {
      rest = fold_rest (λ b p. publish b c.args.tx p (is_own_lock (held_by c.args.txs.now c.args.tx p))) c.args.pages.now c.loop-page.page-index 0 c.loop-page.pool c.publish.new.self c.loop-page-test.true changed ∙ c.loop-page.invariant.rest;
      may = publish_next c.args.tx c.args.pages.now c.loop-page.page-index 0 c.loop-page.pool c.publish.new.self _ c.loop-page-test.true changed c.loop-page.invariant.may;
    }
