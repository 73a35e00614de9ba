use Rattle.redo_laws.proofs.Changes.{torn_changes_nothing_law}
use Rattle.redo_laws.proofs.laws.torn_changes_nothing.Goals as goal

pub returns : goal.returns
returns c = torn_changes_nothing_law
