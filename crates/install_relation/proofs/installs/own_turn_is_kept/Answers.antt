use Rattle.install_relation.proofs.OwnGets.{own_turn_is_kept_law}
use Rattle.install_relation.proofs.installs.own_turn_is_kept.Goals as goal

pub returns : goal.returns
returns c = own_turn_is_kept_law
