use Rattle.std.proofs.Common.{◌≡◌, ap, ◌∙◌}
use Rattle.pcl_base.specs.Limits.{Sizes}
use Rattle.run_rules.specs.Views.{count_from}
use Rattle.node_looks.specs.Looks.{waits_on}
use Rattle.node_parts.specs.State.{PartsView, node_of}
use Rattle.node_looks.proofs.Listed.{waits_end, waits_step}
use Rattle.node_looks.proofs.looks.waiting.Goals as goal

pub loop-page-preserved : goal.loop-page-preserved
loop-page-preserved c =
    waits_step (node_of c.args.parts.now) c.loop-page.page c.pages-pages.result c.loop-page.items.items c.add_waits.new.items.items c.loop-page-test.true c.in_ok-add_waits.ensures
    ∙ c.loop-page.invariant

pub returns : goal.returns
returns c =
    let pages : c.pages-pages.result ≡ c.args.parts.now.home.config.pages =
    c.pages-pages.ensures.value ∙ (ap (λ (x : Sizes). x.pages) c.config.ensures.value ∙ ap (λ (v : PartsView). v.home.config.pages) c.parts.view_is) in
    waits_end (node_of c.args.parts.now) c.loop-page.page c.pages-pages.result c.loop-page.items.items c.loop-page-test.false
    ∙ (c.loop-page.invariant ∙ ap (λ k. waits_on (node_of c.args.parts.now) (count_from 0 k)) pages)
