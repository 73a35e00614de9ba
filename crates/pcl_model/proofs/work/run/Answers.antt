-- The parts of a run.
use Rattle.std.proofs.Common.{◌≡◌, subst, ℕ, length, IsTrue, arith}
use Rattle.std.specs.List.{list_all}
use Rattle.pcl_model.specs.Cells.{writes_within}
use Rattle.pcl_model.proofs.CellLemmas.{MayRise-of, within-fits, run-kept, run-named}
use Rattle.pcl_model.proofs.work.run.Goals as goal

pub keep-requires-clause-lies : goal.keep-requires-clause-lies
keep-requires-clause-lies c =
    let same : length c.args.cells.now ≡ length c.work.new.cells = omega arith in
    subst (λ (n : ℕ). IsTrue (list_all (writes_within n) c.args.steps.now)) same
    (within-fits (length c.args.cells.now) (length c.args.zeros.now) c.args.steps.now c.requires.fits)

pub keep-requires-clause-below : goal.keep-requires-clause-below
keep-requires-clause-below c =
    MayRise-of c.args.zeros.now c.args.cells.now c.work.new.cells c.args.steps.now c.requires.below c.work.ensures.kept c.work.ensures.within

pub forget-requires-clause-lies : goal.forget-requires-clause-lies
forget-requires-clause-lies c =
    let same : length c.args.cells.now ≡ length c.work.new.cells = omega arith in
    subst (λ (n : ℕ). IsTrue (list_all (writes_within n) c.args.steps.now)) same
    (within-fits (length c.args.cells.now) (length c.args.zeros.now) c.args.steps.now c.requires.fits)

pub returns-in-Ok-clause-ok : goal.returns-in-Ok-clause-ok
returns-in-Ok-clause-ok c =
    run-kept c.args.zeros.now c.args.steps.now c.args.cells.now c.work.new.cells c.keep.new.cells c.requires.idle
    c.in-Ok.ensures.ok c.in-Ok.ensures.written (c.keep.ensures.next c.args.zeros.now)

pub returns-in-Err-clause-fault : goal.returns-in-Err-clause-fault
returns-in-Err-clause-fault c =
    run-named c.args.zeros.now c.args.steps.now c.args.cells.now c.in-Err.fault c.requires.idle c.in-Err.ensures.fault
