use Rattle.kept_relation.proofs.TurnParts.Resigning.{telling_owner_is_kept_law}
use Rattle.kept_relation.proofs.turn.views.telling_owner_is_kept.Goals as goal

pub returns : goal.returns
returns c = telling_owner_is_kept_law
