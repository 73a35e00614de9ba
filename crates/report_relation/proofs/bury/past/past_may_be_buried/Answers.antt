use Rattle.report_relation.proofs.BuryParts.Naming.{past_may_be_buried_law}
use Rattle.report_relation.proofs.bury.past.past_may_be_buried.Goals as goal

pub returns : goal.returns
returns c = past_may_be_buried_law
