use Rattle.install_relation.proofs.Whole.{others_are_unseen_law}
use Rattle.install_relation.proofs.installs.others_are_unseen.Goals as goal

pub returns : goal.returns
returns c = others_are_unseen_law
