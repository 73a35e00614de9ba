use Rattle.report_relation.proofs.BuryParts.KeptEarly.{purged_are_living_law}
use Rattle.report_relation.proofs.bury.kept.purged_are_living.Goals as goal

pub returns : goal.returns
returns c = purged_are_living_law
