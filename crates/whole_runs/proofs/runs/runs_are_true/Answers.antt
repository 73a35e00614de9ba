use Rattle.whole_runs.proofs.Going.{runs_are_true_law}
use Rattle.whole_runs.proofs.runs.runs_are_true.Goals as goal

pub returns : goal.returns
returns c = runs_are_true_law
