use Rattle.whole_runs.proofs.Going.{runs_are_safe_law}
use Rattle.whole_runs.proofs.runs.runs_are_safe.Goals as goal

pub returns : goal.returns
returns c = runs_are_safe_law
