use Rattle.report_relation.proofs.BuryParts.Awaiting.{nobody_is_ahead_of_it_law}
use Rattle.report_relation.proofs.bury.gathered.nobody_is_ahead_of_it.Goals as goal

pub returns : goal.returns
returns c = nobody_is_ahead_of_it_law
