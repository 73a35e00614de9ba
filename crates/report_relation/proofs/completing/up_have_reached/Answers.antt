use Rattle.report_relation.proofs.Reaching.{up_have_reached_law}
use Rattle.report_relation.proofs.completing.up_have_reached.Goals as goal

pub returns : goal.returns
returns c = up_have_reached_law
