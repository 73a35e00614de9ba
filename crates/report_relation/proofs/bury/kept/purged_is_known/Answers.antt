use Rattle.report_relation.proofs.BuryParts.Carried.{purged_is_known_law}
use Rattle.report_relation.proofs.bury.kept.purged_is_known.Goals as goal

pub returns : goal.returns
returns c = purged_is_known_law
