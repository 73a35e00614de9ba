use Rattle.install_relation.proofs.Told.{tells_on_law}
use Rattle.install_relation.proofs.turns.tells_on.Goals as goal

pub returns : goal.returns
returns c = tells_on_law
