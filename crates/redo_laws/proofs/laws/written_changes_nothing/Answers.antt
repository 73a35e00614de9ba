use Rattle.redo_laws.proofs.Changes.{written_changes_nothing_law}
use Rattle.redo_laws.proofs.laws.written_changes_nothing.Goals as goal

pub returns : goal.returns
returns c = written_changes_nothing_law
