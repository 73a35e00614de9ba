use Rattle.whole_runs.proofs.InstallParts.Taken.{taken_is_completed_law}
use Rattle.whole_runs.proofs.install.turns.taken_is_completed.Goals as goal

pub returns : goal.returns
returns c = taken_is_completed_law
