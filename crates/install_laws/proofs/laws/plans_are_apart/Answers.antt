use Rattle.install_laws.proofs.Apart.{plans_are_apart_law}
use Rattle.install_laws.proofs.laws.plans_are_apart.Goals as goal

pub returns : goal.returns
returns c = plans_are_apart_law
