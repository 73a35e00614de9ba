use Rattle.std.proofs.Common.{◌+◌, ◌∷◌, [], ◌++◌, sym, subst, take, slice_index, List, ℕ}
use Rattle.std.proofs.lemmas.Grind.{take_at_read}
use Rattle.partition_redo.specs.declared.site.Chain.{Chain}
use Rattle.partition_redo.specs.Chains.{AreAll, IsGiven}
use Rattle.partition_redo.proofs.Plans.{are_more}
use Rattle.partition_redo.proofs.plan.chains_of.Goals as goal

pub loop-page-preserved : goal.loop-page-preserved
loop-page-preserved c =
    let i : ℕ = c.loop-page.page-index in
    let next = (take_at_read c.args.pages.now i 0 c.loop-page-test.true).1 in
    let here = c.in_ok-chain.ensures in
    let given : IsGiven c.args.index.now (slice_index c.args.pages.now i) c.in_ok-chain.field-0 = record { page = here.page; small = here.small; fits = here.fits; none = here.none; follows = here.follows } in
    let more = are_more (IsGiven c.args.index.now) (take i c.args.pages.now) c.loop-page.chains (slice_index c.args.pages.now i) c.in_ok-chain.field-0 c.loop-page.invariant given in
    subst (λ (xs : List Chain). AreAll (IsGiven c.args.index.now) (take (i + 1) c.args.pages.now) xs) (sym c.in_ok-push.ensures.ok)
    (subst (λ (ps : List ℕ). AreAll (IsGiven c.args.index.now) ps (c.loop-page.chains ++ c.in_ok-chain.field-0 ∷ [])) (sym next) more)
