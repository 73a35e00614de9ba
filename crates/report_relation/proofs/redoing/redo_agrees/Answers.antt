use Rattle.report_relation.proofs.Restored.{redo_agrees_law}
use Rattle.report_relation.proofs.redoing.redo_agrees.Goals as goal

pub returns : goal.returns
returns c = redo_agrees_law
