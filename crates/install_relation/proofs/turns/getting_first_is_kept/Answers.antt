use Rattle.install_relation.proofs.Getting.{getting_first_is_kept_law}
use Rattle.install_relation.proofs.turns.getting_first_is_kept.Goals as goal

pub returns : goal.returns
returns c = getting_first_is_kept_law
