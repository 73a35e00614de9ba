use Rattle.whole_runs.proofs.Going.{runs_are_known_law}
use Rattle.whole_runs.proofs.runs.runs_are_known.Goals as goal

pub returns : goal.returns
returns c = runs_are_known_law
