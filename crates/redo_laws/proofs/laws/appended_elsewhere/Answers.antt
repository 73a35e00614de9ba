use Rattle.redo_laws.proofs.Changes.{appended_elsewhere_law}
use Rattle.redo_laws.proofs.laws.appended_elsewhere.Goals as goal

pub returns : goal.returns
returns c = appended_elsewhere_law
