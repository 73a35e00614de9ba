use Rattle.redo_laws.proofs.Changes.{redone_may_be_written_law}
use Rattle.redo_laws.proofs.laws.redone_may_be_written.Goals as goal

pub returns : goal.returns
returns c = redone_may_be_written_law
