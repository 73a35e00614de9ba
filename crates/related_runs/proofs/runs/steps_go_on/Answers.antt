use Rattle.related_runs.proofs.GoingOn.{steps_go_on_law}
use Rattle.related_runs.proofs.runs.steps_go_on.Goals as goal

pub returns : goal.returns
returns c = steps_go_on_law
