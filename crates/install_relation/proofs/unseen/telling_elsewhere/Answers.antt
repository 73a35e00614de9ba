use Rattle.install_relation.proofs.Elsewhere.{telling_elsewhere_law}
use Rattle.install_relation.proofs.unseen.telling_elsewhere.Goals as goal

pub returns : goal.returns
returns c = telling_elsewhere_law
