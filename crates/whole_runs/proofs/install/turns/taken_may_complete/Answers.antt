use Rattle.whole_runs.proofs.InstallParts.Taken.{taken_may_complete_law}
use Rattle.whole_runs.proofs.install.turns.taken_may_complete.Goals as goal

pub returns : goal.returns
returns c = taken_may_complete_law
