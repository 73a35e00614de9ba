use Rattle.kept_relation.proofs.AllRedo.{redo_keeps_law}
use Rattle.kept_relation.proofs.redoing.redo_keeps.Goals as goal

pub returns : goal.returns
returns c = redo_keeps_law
