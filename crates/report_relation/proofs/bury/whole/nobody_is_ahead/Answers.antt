use Rattle.report_relation.proofs.BuryParts.Ahead.{nobody_is_ahead_law}
use Rattle.report_relation.proofs.bury.whole.nobody_is_ahead.Goals as goal

pub returns : goal.returns
returns c = nobody_is_ahead_law
