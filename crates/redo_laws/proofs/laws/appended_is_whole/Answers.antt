use Rattle.redo_laws.proofs.Changes.{appended_is_whole_law}
use Rattle.redo_laws.proofs.laws.appended_is_whole.Goals as goal

pub returns : goal.returns
returns c = appended_is_whole_law
