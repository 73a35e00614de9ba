use Rattle.whole_runs.proofs.InstallParts.Installed.{installs_are_known_law}
use Rattle.whole_runs.proofs.install.installs.installs_are_known.Goals as goal

pub returns : goal.returns
returns c = installs_are_known_law
