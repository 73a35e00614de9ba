use Rattle.redo_laws.proofs.Changes.{appended_is_redone_law}
use Rattle.redo_laws.proofs.laws.appended_is_redone.Goals as goal

pub returns : goal.returns
returns c = appended_is_redone_law
