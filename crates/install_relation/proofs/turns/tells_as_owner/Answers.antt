use Rattle.install_relation.proofs.Resigning.{tells_as_owner_law}
use Rattle.install_relation.proofs.turns.tells_as_owner.Goals as goal

pub returns : goal.returns
returns c = tells_as_owner_law
