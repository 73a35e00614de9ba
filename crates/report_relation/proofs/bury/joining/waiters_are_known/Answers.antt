use Rattle.report_relation.proofs.BuryParts.Joined.{waiters_are_known_law}
use Rattle.report_relation.proofs.bury.joining.waiters_are_known.Goals as goal

pub returns : goal.returns
returns c = waiters_are_known_law
