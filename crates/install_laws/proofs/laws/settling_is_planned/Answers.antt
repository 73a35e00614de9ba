use Rattle.install_laws.proofs.Settling.{settling_is_planned_law}
use Rattle.install_laws.proofs.laws.settling_is_planned.Goals as goal

pub returns : goal.returns
returns c = settling_is_planned_law
