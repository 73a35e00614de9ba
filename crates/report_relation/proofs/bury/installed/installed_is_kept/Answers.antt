use Rattle.report_relation.proofs.BuryParts.Installing.{installed_is_kept_law}
use Rattle.report_relation.proofs.bury.installed.installed_is_kept.Goals as goal

pub returns : goal.returns
returns c = installed_is_kept_law
