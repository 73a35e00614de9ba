use Rattle.report_relation.proofs.BuryParts.KeptServed.{kept_is_clear_law}
use Rattle.report_relation.proofs.bury.kept.kept_is_clear.Goals as goal

pub returns : goal.returns
returns c = kept_is_clear_law
