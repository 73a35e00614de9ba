use Rattle.report_relation.proofs.BuryParts.Awaiting.{gathered_is_known_law}
use Rattle.report_relation.proofs.bury.gathered.gathered_is_known.Goals as goal

pub returns : goal.returns
returns c = gathered_is_known_law
