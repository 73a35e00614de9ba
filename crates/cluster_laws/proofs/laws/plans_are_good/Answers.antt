use Rattle.cluster_laws.proofs.Steps.{plans_are_good_law}
use Rattle.cluster_laws.proofs.laws.plans_are_good.Goals as goal

pub returns : goal.returns
returns c = plans_are_good_law
