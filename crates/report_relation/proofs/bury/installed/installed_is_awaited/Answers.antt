use Rattle.report_relation.proofs.BuryParts.Installing.{installed_is_awaited_law}
use Rattle.report_relation.proofs.bury.installed.installed_is_awaited.Goals as goal

pub returns : goal.returns
returns c = installed_is_awaited_law
