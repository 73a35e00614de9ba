use Rattle.install_laws.proofs.Apart.{install_is_planned_law}
use Rattle.install_laws.proofs.laws.install_is_planned.Goals as goal

pub returns : goal.returns
returns c = install_is_planned_law
