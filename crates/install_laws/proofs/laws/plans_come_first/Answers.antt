use Rattle.install_laws.proofs.Apart.{plans_come_first_law}
use Rattle.install_laws.proofs.laws.plans_come_first.Goals as goal

pub returns : goal.returns
returns c = plans_come_first_law
