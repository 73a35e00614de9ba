-- A step over the cells is that step over the pages that they show.
use Rattle.std.proofs.Common.{◌≡◌, sym, ap, subst, ◌∙◌, ℕ, List, ◌<◌, ◌∷◌, length, true, false, slice_index_or, Err, IsTrue, rules}
use Rattle.pcl_base.specs.declared.script.Step.{Step}
use Rattle.pcl_base.specs.declared.script.Step.TheVariants.{Read, Write}
use Rattle.run_rules.specs.Words.{same_bytes}
use Rattle.run_rules.specs.Base.{put_over}
use Rattle.run_rules.specs.Running.{worked, step_fits}
use Rattle.pcl_model.specs.Cells.{working, work_bytes}
use Rattle.pcl_model.proofs.CellLemmas.{worked-same, worked-differs, worked-write, kept-set}
use Rattle.pcl_model.proofs.work.take_step.Goals as goal

pub returns-then-eq-clause-ok : goal.returns-then-eq-clause-ok
returns-then-eq-clause-ok c rest =
    let fits : IsTrue (step_fits (length c.args.cells.now) (length c.args.zeros.now) (Read c.in-Read.page c.in-Read.bytes)) = subst (λ (s : Step). IsTrue (step_fits (length c.args.cells.now) (length c.args.zeros.now) s)) c.in-Read.is c.requires.fits in
    let inside : c.in-Read.page < length c.args.cells.now = search rules in
    let same : same_bytes c.in-Read.bytes (work_bytes c.args.zeros.now (slice_index_or c.args.cells.now c.in-Read.page c.index-cells-page.result)) ≡ true
    = rw (← c.as_slice.ensures, ← c.working-found.ensures) (sym c.eq.ensures ∙ c.if-eq.true) in
    ap (λ (s : Step). worked (working c.args.zeros.now c.args.cells.now) c.args.place (s ∷ rest)) c.in-Read.is
    ∙ worked-same c.args.zeros.now c.args.cells.now c.args.place c.in-Read.page c.index-cells-page.result c.in-Read.bytes inside same rest

pub returns-in_ok-from_slice-in-Read-clause-fault : goal.returns-in_ok-from_slice-in-Read-clause-fault
returns-in_ok-from_slice-in-Read-clause-fault c rest =
    let fits : IsTrue (step_fits (length c.args.cells.now) (length c.args.zeros.now) (Read c.in-Read.page c.in-Read.bytes)) = subst (λ (s : Step). IsTrue (step_fits (length c.args.cells.now) (length c.args.zeros.now) s)) c.in-Read.is c.requires.fits in
    let inside : c.in-Read.page < length c.args.cells.now = search rules in
    let other : same_bytes c.in-Read.bytes (work_bytes c.args.zeros.now (slice_index_or c.args.cells.now c.in-Read.page c.index-cells-page.result)) ≡ false
    = rw (← c.as_slice.ensures, ← c.working-found.ensures) (sym c.eq.ensures ∙ c.if-eq.false) in
    let expected : work_bytes c.args.zeros.now (slice_index_or c.args.cells.now c.in-Read.page c.index-cells-page.result) ≡ c.of-expected.result
    = sym (c.of-expected.ensures ∙ c.in_ok-from_slice-in-Read.ensures.items ∙ c.working-found.ensures) in
    ap (λ (s : Step). worked (working c.args.zeros.now c.args.cells.now) c.args.place (s ∷ rest)) c.in-Read.is
    ∙ worked-differs c.args.zeros.now c.args.cells.now c.args.place c.in-Read.page c.index-cells-page.result c.in-Read.bytes inside other rest
    ∙ ap (λ (xs : List ℕ). Err (record { place = c.args.place; expected = xs })) expected

pub returns-in_ok-write-in-Write-clause-kept : goal.returns-in_ok-write-in-Write-clause-kept
returns-in_ok-write-in-Write-clause-kept c =
    kept-set c.args.zeros.now c.args.cells.now c.in-Write.page c.index-cells-page-in-Write.result c.write.new.self c.write.ensures.kept

pub returns-in_ok-write-in-Write-clause-ok : goal.returns-in_ok-write-in-Write-clause-ok
returns-in_ok-write-in-Write-clause-ok c rest =
    let fits : IsTrue (step_fits (length c.args.cells.now) (length c.args.zeros.now) (Write c.in-Write.page c.in-Write.from c.in-Write.bytes)) = subst (λ (s : Step). IsTrue (step_fits (length c.args.cells.now) (length c.args.zeros.now) s)) c.in-Write.is c.requires.fits in
    let inside : c.in-Write.page < length c.args.cells.now = search rules in
    let bytes : work_bytes c.args.zeros.now c.write.new.self ≡ put_over c.in-Write.from c.in-Write.bytes (work_bytes c.args.zeros.now (slice_index_or c.args.cells.now c.in-Write.page c.index-cells-page-in-Write.result))
    = c.in_ok-write-in-Write.ensures.bytes ∙ ap (λ (xs : List ℕ). put_over c.in-Write.from xs (work_bytes c.args.zeros.now (slice_index_or c.args.cells.now c.in-Write.page c.index-cells-page-in-Write.result))) c.as_slice-in-Write.ensures in
    ap (λ (s : Step). worked (working c.args.zeros.now c.args.cells.now) c.args.place (s ∷ rest)) c.in-Write.is
    ∙ worked-write c.args.zeros.now c.args.cells.now c.args.place c.in-Write.page c.index-cells-page-in-Write.result c.in-Write.from c.in-Write.bytes c.write.new.self inside c.write.ensures.kept bytes rest
