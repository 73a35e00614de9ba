use Rattle.install_relation.proofs.Before.{entering_is_unseen_law}
use Rattle.install_relation.proofs.unseen.entering_is_unseen.Goals as goal

pub returns : goal.returns
returns c = entering_is_unseen_law
