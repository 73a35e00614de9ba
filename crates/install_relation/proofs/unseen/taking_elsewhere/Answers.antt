use Rattle.install_relation.proofs.Elsewhere.{taking_elsewhere_law}
use Rattle.install_relation.proofs.unseen.taking_elsewhere.Goals as goal

pub returns : goal.returns
returns c = taking_elsewhere_law
