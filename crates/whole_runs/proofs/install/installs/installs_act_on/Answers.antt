use Rattle.whole_runs.proofs.InstallParts.Installed.{installs_act_on_law}
use Rattle.whole_runs.proofs.install.installs.installs_act_on.Goals as goal

pub returns : goal.returns
returns c = installs_act_on_law
