use Rattle.report_relation.proofs.Ready.{ready_may_complete_law}
use Rattle.report_relation.proofs.completing.ready_may_complete.Goals as goal

pub returns : goal.returns
returns c = ready_may_complete_law
