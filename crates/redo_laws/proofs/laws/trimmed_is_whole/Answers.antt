use Rattle.redo_laws.proofs.Changes.{trimmed_is_whole_law}
use Rattle.redo_laws.proofs.laws.trimmed_is_whole.Goals as goal

pub returns : goal.returns
returns c = trimmed_is_whole_law
