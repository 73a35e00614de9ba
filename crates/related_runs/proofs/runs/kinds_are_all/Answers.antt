use Rattle.related_runs.proofs.AllKinds.{kinds_are_all_law}
use Rattle.related_runs.proofs.runs.kinds_are_all.Goals as goal

pub returns : goal.returns
returns c = kinds_are_all_law
