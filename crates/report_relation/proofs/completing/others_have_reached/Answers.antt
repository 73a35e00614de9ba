use Rattle.report_relation.proofs.Reaching.{others_have_reached_law}
use Rattle.report_relation.proofs.completing.others_have_reached.Goals as goal

pub returns : goal.returns
returns c = others_have_reached_law
