use Rattle.report_relation.proofs.BuryParts.KnownWhole.{known_is_whole_law}
use Rattle.report_relation.proofs.bury.whole.known_is_whole.Goals as goal

pub returns : goal.returns
returns c = known_is_whole_law
