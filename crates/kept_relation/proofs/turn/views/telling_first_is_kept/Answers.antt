use Rattle.kept_relation.proofs.TurnParts.Starting.{telling_first_is_kept_law}
use Rattle.kept_relation.proofs.turn.views.telling_first_is_kept.Goals as goal

pub returns : goal.returns
returns c = telling_first_is_kept_law
