use Rattle.whole_runs.proofs.Going.{steps_go_on_law}
use Rattle.whole_runs.proofs.runs.steps_go_on.Goals as goal

pub returns : goal.returns
returns c = steps_go_on_law
