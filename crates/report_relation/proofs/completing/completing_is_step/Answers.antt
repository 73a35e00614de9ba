use Rattle.report_relation.proofs.Served.{completing_is_step_law}
use Rattle.report_relation.proofs.completing.completing_is_step.Goals as goal

pub returns : goal.returns
returns c = completing_is_step_law
