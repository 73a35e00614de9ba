use Rattle.kept_relation.proofs.AllRedo.{redo_agrees_law}
use Rattle.kept_relation.proofs.redoing.redo_agrees.Goals as goal

pub returns : goal.returns
returns c = redo_agrees_law
