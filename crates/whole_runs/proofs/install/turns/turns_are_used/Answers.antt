use Rattle.whole_runs.proofs.InstallParts.Used.{turns_are_used_law}
use Rattle.whole_runs.proofs.install.turns.turns_are_used.Goals as goal

pub returns : goal.returns
returns c = turns_are_used_law
