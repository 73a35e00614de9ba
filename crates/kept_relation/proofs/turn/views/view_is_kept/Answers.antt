use Rattle.kept_relation.proofs.TurnParts.Going.{view_is_kept_law}
use Rattle.kept_relation.proofs.turn.views.view_is_kept.Goals as goal

pub returns : goal.returns
returns c = view_is_kept_law
