use Rattle.whole_runs.proofs.InstallParts.Kept.{turns_are_kept_law}
use Rattle.whole_runs.proofs.install.turns.turns_are_kept.Goals as goal

pub returns : goal.returns
returns c = turns_are_kept_law
