use Rattle.std.proofs.Common.{◌<◌, ◌≤◌, ◌+◌, ◌-◌, ◌++◌, ◌∙◌, ap, arith}
use Rattle.node_rules.specs.LockTable.{pages_from}
use Rattle.install_plans.proofs.Listing.{pages_step, pages_past, pages_end}
use Rattle.install_plans.proofs.redo.partition_pages.Goals as goal

pub returns-then-page-pages : goal.returns-then-page-pages
returns-then-page-pages c =
    let s = c.args.by.now.config in
    let value = c.pages.ensures.value in
    let test = c.if-page-pages.true in
    let past : s.pages ≤ c.loop.page = omega (arith, value, test) in
    pages_past c.loop.pages.items (c.pages-end.result - c.loop.counter) s.nodes c.loop.page s.pages past ∙ c.loop.invariant.rest

pub loop-preserved : goal.loop-preserved
loop-preserved c =
    let s = c.args.by.now.config in
    let value = c.pages.ensures.value in
    let test = c.if-page-pages.false in
    let low : c.loop.page < s.pages = omega (arith, value, test) in
    record {
      rest = ap (λ k. c.push.new.self.items ++ pages_from (c.pages-end.result - (c.loop.counter + 1)) s.nodes (c.loop.page + k) s.pages) c.nodes-page.ensures.value
          ∙ (pages_step c.loop.pages.items c.push.new.self.items c.pages-end.result c.loop.counter s.nodes c.loop.page s.pages c.loop-test.true low c.in_ok-push.ensures.items ∙ c.loop.invariant.rest);
      all = c.loop.invariant.all;
    }

pub returns : goal.returns
returns c =
    let s = c.args.by.now.config in
    pages_end c.loop.pages.items c.pages-end.result c.loop.counter s.nodes c.loop.page s.pages c.loop-test.false ∙ c.loop.invariant.rest
