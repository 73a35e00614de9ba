use Rattle.kept_relation.proofs.TurnParts.Told.{tell_is_kept_law}
use Rattle.kept_relation.proofs.turn.views.tell_is_kept.Goals as goal

pub returns : goal.returns
returns c = tell_is_kept_law
