use Rattle.redo_laws.proofs.Changes.{redo_is_no_older_law}
use Rattle.redo_laws.proofs.laws.redo_is_no_older.Goals as goal

pub returns : goal.returns
returns c = redo_is_no_older_law
