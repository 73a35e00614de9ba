use Rattle.report_relation.proofs.BuryParts.Closed.{past_are_closed_law}
use Rattle.report_relation.proofs.bury.past.past_are_closed.Goals as goal

pub returns : goal.returns
returns c = past_are_closed_law
