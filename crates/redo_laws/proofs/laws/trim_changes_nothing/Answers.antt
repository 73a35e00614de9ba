use Rattle.redo_laws.proofs.Changes.{trim_changes_nothing_law}
use Rattle.redo_laws.proofs.laws.trim_changes_nothing.Goals as goal

pub returns : goal.returns
returns c = trim_changes_nothing_law
