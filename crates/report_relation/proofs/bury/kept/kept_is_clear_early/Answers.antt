use Rattle.report_relation.proofs.BuryParts.KeptEarly.{kept_is_clear_early_law}
use Rattle.report_relation.proofs.bury.kept.kept_is_clear_early.Goals as goal

pub returns : goal.returns
returns c = kept_is_clear_early_law
