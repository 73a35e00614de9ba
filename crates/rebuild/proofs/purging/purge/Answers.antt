use Rattle.std.proofs.Common.{◌∙◌, ◌+◌, ap, sym, subst, get_or, is_some}
use Rattle.std.specs.List.Sorted.{IsPermutation}
use Rattle.std.specs.Map.{keys_of}
use Rattle.lock_table.specs.Tables.{found}
use Rattle.rebuild.specs.Parts.{is_page}
use Rattle.rebuild.proofs.Purged.{ArePurged, among_first, purged_step, purged_past, kept_made, listed_there, table_purged}
use Rattle.rebuild.proofs.purging.purge.Goals as goal
use Rattle.rebuild.proofs.purging.purge.Goals.{then-is_page_of+in_ok-purge_page, else-is_page_of}

pub purge_page-requires-clause-there : goal.purge_page-requires-clause-there
purge_page-requires-clause-there c =
    let pages = c.as_slice-page-items.result.now in
    c.loop-page.invariant.made (get_or pages c.loop-page.page-index 0)
    ∙ listed_there c.args.t.now pages c.loop-page.page-index 0 c.loop-page-test.true
    (subst (IsPermutation (keys_of c.args.t.now.entries)) (sym c.as_slice-page-items.ensures.value) c.in_ok-pages.ensures.all)

pub loop-page-preserved : goal.loop-page-preserved
loop-page-preserved c =
    let t = c.args.t.now in
    let s = c.args.config.now in
    let live = c.args.live.now in
    let i = c.loop-page.page-index in
    let pages = c.as_slice-page-items.result.now in
    let now = c.loop-page.t in
    let done = c.loop-page.invariant.purged in
    let made = c.loop-page.invariant.made in
    let tested = ap (λ q. is_page s q (get_or pages i 0)) (sym done.partition) ∙ sym c.is_page_of.ensures in
    let all = subst (IsPermutation (keys_of t.entries)) (sym c.as_slice-page-items.ensures.value) c.in_ok-pages.ensures.all in
    let there = made (get_or pages i 0) ∙ listed_there t pages i 0 c.loop-page-test.true all in
    elim c.if-is_page_of.branch [
      | then-is_page_of+in_ok-purge_page w ↦
          let is = w.t-is ∙ w.in_ok-purge_page.ensures in
          record {
            purged = purged_step live s t.partition pages i 0 t now _ c.loop-page-test.true (tested ∙ w.if-is_page_of.true) there is done;
            made = λ p. kept_made now _ (get_or pages i 0) _ there is p ∙ made p;
          }
      | else-is_page_of w ↦
          record {
            purged = subst (ArePurged live (among_first s t.partition pages (i + 1)) t) (sym w.t-is)
                (purged_past live s t.partition pages i 0 t now c.loop-page-test.true (tested ∙ w.if-is_page_of.false) done);
            made = λ p. ap (λ u. is_some (found u p)) w.t-is ∙ made p;
          }
    ]

pub returns-clause-purged : goal.returns-clause-purged
returns-clause-purged c =
    table_purged c.args.live.now c.args.config.now c.as_slice-page-items.result.now c.loop-page.page-index c.args.t.now c.loop-page.t
    c.loop-page-test.false c.requires.config c.requires.partition
    (subst (IsPermutation (keys_of c.args.t.now.entries)) (sym c.as_slice-page-items.ensures.value) c.in_ok-pages.ensures.all) c.loop-page.invariant.purged
