use Rattle.report_relation.proofs.BuryParts.Awaiting.{gathered_is_whole_law}
use Rattle.report_relation.proofs.bury.gathered.gathered_is_whole.Goals as goal

pub returns : goal.returns
returns c = gathered_is_whole_law
