use Rattle.kept_relation.proofs.TurnParts.Joining.{join_is_kept_law}
use Rattle.kept_relation.proofs.turn.views.join_is_kept.Goals as goal

pub returns : goal.returns
returns c = join_is_kept_law
