use Rattle.install_laws.proofs.Apart.{step_is_planned_law}
use Rattle.install_laws.proofs.laws.step_is_planned.Goals as goal

pub returns : goal.returns
returns c = step_is_planned_law
