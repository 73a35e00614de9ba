use Rattle.std.proofs.Common.{◌∙◌, map, sym, subst}
use Rattle.std.specs.List.{AllByRecursion}
use Rattle.node_rules.specs.Words.{same_tx}
use Rattle.node_rules.specs.NodeState.{Written}
use Rattle.home.specs.Places.{PlacesView}
use Rattle.home.proofs.Forgotten.{HasRuns, all_listed, rows_have}
use Rattle.home.proofs.Removed.{others, removes_all}
use Rattle.home.proofs.Unpinned.{page_of, fold_over}
use Rattle.home.proofs.written.WrittenPlaces.forget.Goals as goal

pub returns-clause-places : goal.returns-clause-places
returns-clause-places c =
    let own = λ (w : Written). same_tx w.tx c.args.tx in
    let page = λ (w : Written). w.page in
    let pages = map page_of c.args.ends.now in
    let some = subst (λ (v : PlacesView). AllByRecursion HasRuns v.places) c.self.view_is (rows_have c.self.inside.pages.entries c.self.invariant) in
    sym (fold_over (λ l p. others own page p l) c.args.ends.now c.loop-end.end-index c.loop-end.self.places c.loop-end-test.false)
    ∙ (c.loop-end.invariant.rest
    ∙ removes_all own page pages c.args.self.now.places (all_listed c.args.tx pages c.args.self.now.places some c.requires))
