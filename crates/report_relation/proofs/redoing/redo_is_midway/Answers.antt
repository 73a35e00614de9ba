use Rattle.report_relation.proofs.RedoMidway.{redo_midway}
use Rattle.report_relation.proofs.redoing.redo_is_midway.Goals as goal

pub returns : goal.returns
returns c = redo_midway
