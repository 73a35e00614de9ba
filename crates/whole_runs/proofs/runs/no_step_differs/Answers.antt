use Rattle.whole_runs.proofs.Never.{no_step_differs_law}
use Rattle.whole_runs.proofs.runs.no_step_differs.Goals as goal

pub returns : goal.returns
returns c = no_step_differs_law
