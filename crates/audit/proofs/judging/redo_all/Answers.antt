use Rattle.audit.proofs.judging.redo_all.Goals as goal

pub redo-requires-clause-below : goal.redo-requires-clause-below
redo-requires-clause-below c = c.loop-page.invariant
