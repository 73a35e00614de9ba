use Rattle.std.proofs.Common.{◌≡◌, Some, ◌+◌, ◌*◌, ◌^◌, ◌<◌, ◌≤◌, ◌%◌, refl, ap, sym, subst, ◌∙◌, arith}
use Rattle.std.proofs.Math.Nat.{add-mod_right}
use Rattle.node_parts.proofs.Counts.{ShortFrom, left_from, none_left, none_short, page_left, page_short, place_most, table_short, table_sum}
use Rattle.node_parts.proofs.listed.listed_in.Goals as goal

pub loop-page-preserved : goal.loop-page-preserved
loop-page-preserved c =
    let p = c.loop-page.page in
    let x = c.listed_on-count.result in
    let step : c.nodes-page.result ≡ c.args.config.now.nodes = c.nodes-page.ensures.value in
    let some = c.nodes-page.ensures.limits.some_nodes in
    let low : p < c.args.config.now.pages = subst (λ k. p < k) c.pages.ensures.value c.loop-page-test.true in
    let few = c.listed_on-count.ensures.short in
    let before = c.loop-page.invariant.most in
    record {
      own = ap (λ k. (p + k) % c.args.config.now.nodes) step ∙ (add-mod_right p c.args.config.now.nodes ∙ c.loop-page.invariant.own);
      count = ap (λ k. c.loop-page.count + x + left_from c.args.table.now c.args.config.now (p + k)) step
          ∙ page_left c.args.table.now c.args.config.now p c.loop-page.count _ _ x some low refl c.listed_on-count.ensures.value c.loop-page.invariant.count;
      most = omega (arith, step, some, few, before);
      short = λ rest. c.loop-page.invariant.short
          (page_short c.args.table.now c.args.config.now p x some low c.listed_on-count.ensures.value few (subst (λ k. ShortFrom c.args.table.now c.args.config.now (p + k)) step rest));
    }

pub returns-clause-value : goal.returns-clause-value
returns-clause-value c =
    let past : c.args.config.now.pages ≤ c.loop-page.page = subst (λ k. k ≤ c.loop-page.page) c.pages.ensures.value c.loop-page-test.false in
    let none = none_left c.args.table.now c.args.config.now c.loop-page.page past in
    let all = c.loop-page.invariant.count in
    let left : c.loop-page.count ≡ left_from c.args.table.now c.args.config.now c.args.q = omega (arith, none, all) in
    left ∙ table_sum c.args.table.now c.args.config.now c.args.q c.requires.table

pub returns-clause-short : goal.returns-clause-short
returns-clause-short c =
    let past : c.args.config.now.pages ≤ c.loop-page.page = subst (λ k. k ≤ c.loop-page.page) c.pages.ensures.value c.loop-page-test.false in
    table_short c.args.table.now c.args.config.now c.args.q c.requires.table (c.loop-page.invariant.short (none_short c.args.table.now c.args.config.now c.loop-page.page past))

pub returns-clause-most : goal.returns-clause-most
returns-clause-most c =
    let past : c.args.config.now.pages ≤ c.loop-page.page = subst (λ k. k ≤ c.loop-page.page) c.pages.ensures.value c.loop-page-test.false in
    let none = none_left c.args.table.now c.args.config.now c.loop-page.page past in
    let all = c.loop-page.invariant.count in
    let left : c.loop-page.count ≡ left_from c.args.table.now c.args.config.now c.args.q = omega (arith, none, all) in
    let short = table_short c.args.table.now c.args.config.now c.args.q c.requires.table (c.loop-page.invariant.short (none_short c.args.table.now c.args.config.now c.loop-page.page past)) in
    subst (λ n. n ≤ 65536 * 2 ^ 65) (sym (left ∙ table_sum c.args.table.now c.args.config.now c.args.q c.requires.table))
    (place_most c.args.config.now c.args.q (Some c.args.table.now) c.pages.ensures.limits c.requires.table short)
