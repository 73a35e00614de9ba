use Rattle.report_relation.proofs.AllSettled.{all_are_settled_law}
use Rattle.report_relation.proofs.completing.all_are_settled.Goals as goal

pub returns : goal.returns
returns c = all_are_settled_law
