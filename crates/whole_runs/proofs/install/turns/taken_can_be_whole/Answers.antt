use Rattle.whole_runs.proofs.InstallParts.Taken.{taken_can_be_whole_law}
use Rattle.whole_runs.proofs.install.turns.taken_can_be_whole.Goals as goal

pub returns : goal.returns
returns c = taken_can_be_whole_law
