use Rattle.kept_relation.proofs.Cleared.{known_is_clear_law}
use Rattle.kept_relation.proofs.gone.known_is_clear.Goals as goal

pub returns : goal.returns
returns c = known_is_clear_law
