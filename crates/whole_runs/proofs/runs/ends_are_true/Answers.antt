use Rattle.whole_runs.proofs.Going.{ends_are_true_law}
use Rattle.whole_runs.proofs.runs.ends_are_true.Goals as goal

pub returns : goal.returns
returns c = ends_are_true_law
