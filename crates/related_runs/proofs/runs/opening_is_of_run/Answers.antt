use Rattle.related_runs.proofs.GoingOn.{opening_is_of_run_law}
use Rattle.related_runs.proofs.runs.opening_is_of_run.Goals as goal

pub returns : goal.returns
returns c = opening_is_of_run_law
