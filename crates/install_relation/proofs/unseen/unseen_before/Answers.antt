use Rattle.install_relation.proofs.Before.{unseen_before_law}
use Rattle.install_relation.proofs.unseen.unseen_before.Goals as goal

pub returns : goal.returns
returns c = unseen_before_law
