use Rattle.whole_runs.proofs.InstallParts.Kept.{turns_are_purged_law}
use Rattle.whole_runs.proofs.install.turns.turns_are_purged.Goals as goal

pub returns : goal.returns
returns c = turns_are_purged_law
