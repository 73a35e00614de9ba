use Rattle.std.proofs.Common.{◌≡◌, ℕ, ◌+◌, ◌<◌, ◌==◌, ◌∷◌, ap, sym, subst, ◌∙◌, refl, arith, drop, slice_index, nat_eq, Bool, true, false, Some, drop-cons, add-one}
use Rattle.std.proofs.lemmas.Bool.Decides.{nat_tests}
use Rattle.run_rules.specs.Disk.{Disk}
use Rattle.partition_redo.specs.Chains.{IsListed, bad_or, first_bad}
use Rattle.partition_redo.proofs.Walking.{sizes_kept}
use Rattle.partition_redo.specs.Index.{base_of}
use Rattle.partition_redo.proofs.Plans.{listed_here, listed_before}
use Rattle.partition_redo.proofs.Standing.{stored_one}
use Rattle.partition_redo.proofs.plan.list_pages.Goals as goal

pub loop-page-preserved : goal.loop-page-preserved
loop-page-preserved g c =
    let inv = c.loop-page.invariant in
    let next = c.in_ok-version.ensures in
    let i : ℕ = c.loop-page.page-index in
    let page : ℕ = slice_index c.args.pages.now i in
    let back = λ (d : Disk) (t : g.S.Storage.pages c.stored_version.new.s ≡ Some d.pages). let u : g.S.Storage.pages c.loop-page.s ≡ Some d.pages = sym next.pages ∙ t in u in
    record {
      sizes = sizes_kept _ _ _ _ _ _ _ next.pages next.logs next.rooms inv.sizes;
      length = let kept = c.stored_version.auto.raw in let before = inv.length in omega arith;
      pages = next.pages ∙ inv.pages;
      logs = next.logs ∙ inv.logs;
      rooms = next.rooms ∙ inv.rooms;
      stops = next.stops ∙ inv.stops;
      calm = λ f quiet. next.calm f (inv.calm f quiet);
      later = λ k. let first = inv.later k in let more = next.counts k in omega arith;
      ranges = c.in_ok-list.ensures.ranges ∙ inv.ranges;
      plain = λ p before. stored_one (page == p) c.in_ok-version.version (base_of c.loop-page.index p) (base_of c.list.new.self p) (c.in_ok-list.ensures.bases p) (inv.plain p before);
      listed = λ d k t below. at d k t below (nat_eq k c.loop-page.page-index) refl;
      first = λ d t.
          let value = next.value d (back d t) in
          let split : drop i c.args.pages.now ≡ page ∷ drop (i + 1) c.args.pages.now = rw (add-one) (drop-cons c.args.pages.now i 0 c.loop-page-test.true) in
          sym (ap (first_bad d) split ∙ ap (λ r. bad_or page r (first_bad d (drop (i + 1) c.args.pages.now))) value.1) ∙ inv.first d (back d t);
    }
  where
    at : (d : Disk) (k : ℕ) → g.S.Storage.pages c.stored_version.new.s ≡ Some d.pages → k < c.loop-page.page-index + 1 → (b : Bool) → nat_eq k c.loop-page.page-index ≡ b → IsListed d c.list.new.self (slice_index c.args.pages.now k)
    at d k t below true is =
        let same : c.loop-page.page-index ≡ k = grind (arith, nat_tests) in
        let value = c.in_ok-version.ensures.value d (sym c.in_ok-version.ensures.pages ∙ t) in
        subst (λ (j : ℕ). IsListed d c.list.new.self (slice_index c.args.pages.now j)) same
        (listed_here d c.loop-page.index c.list.new.self (slice_index c.args.pages.now c.loop-page.page-index) c.in_ok-version.version value.0 value.1 value.2 c.in_ok-list.ensures.bases)
    at d k t below false is =
        let value = c.in_ok-version.ensures.value d (sym c.in_ok-version.ensures.pages ∙ t) in
        let before = c.loop-page.invariant.listed d k (sym c.in_ok-version.ensures.pages ∙ t) (grind (arith, nat_tests)) in
        listed_before d c.loop-page.index c.list.new.self (slice_index c.args.pages.now c.loop-page.page-index) (slice_index c.args.pages.now k) c.in_ok-version.version value.0 value.1 value.2 c.in_ok-list.ensures.bases before
