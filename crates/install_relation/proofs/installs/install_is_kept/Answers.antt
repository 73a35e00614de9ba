use Rattle.install_relation.proofs.Whole.{install_is_kept_law}
use Rattle.install_relation.proofs.installs.install_is_kept.Goals as goal

pub returns : goal.returns
returns c = install_is_kept_law
