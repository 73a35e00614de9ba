use Rattle.redo_laws.proofs.Changes.{cut_changes_nothing_law}
use Rattle.redo_laws.proofs.laws.cut_changes_nothing.Goals as goal

pub returns : goal.returns
returns c = cut_changes_nothing_law
