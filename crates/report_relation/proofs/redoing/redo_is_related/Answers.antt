use Rattle.report_relation.proofs.Each.{redo_is_related_law}
use Rattle.report_relation.proofs.redoing.redo_is_related.Goals as goal

pub returns : goal.returns
returns c = redo_is_related_law
