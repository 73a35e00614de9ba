use Rattle.whole_runs.proofs.InstallParts.Early.{unviewed_are_quiet_law}
use Rattle.whole_runs.proofs.install.turns.unviewed_are_quiet.Goals as goal

pub returns : goal.returns
returns c = unviewed_are_quiet_law
