use Rattle.install_laws.proofs.Planned.{report_is_planned_law}
use Rattle.install_laws.proofs.laws.report_is_planned.Goals as goal

pub returns : goal.returns
returns c = report_is_planned_law
