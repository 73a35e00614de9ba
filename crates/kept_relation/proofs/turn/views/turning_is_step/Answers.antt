use Rattle.kept_relation.proofs.TurnParts.Turning.{turning_is_step_law}
use Rattle.kept_relation.proofs.turn.views.turning_is_step.Goals as goal

pub returns : goal.returns
returns c = turning_is_step_law
