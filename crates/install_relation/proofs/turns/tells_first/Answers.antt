use Rattle.install_relation.proofs.Starting.{tells_first_law}
use Rattle.install_relation.proofs.turns.tells_first.Goals as goal

pub returns : goal.returns
returns c = tells_first_law
