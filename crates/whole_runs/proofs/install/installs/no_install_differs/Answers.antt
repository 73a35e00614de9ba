use Rattle.whole_runs.proofs.InstallParts.NoneDiffers.{no_install_differs_law}
use Rattle.whole_runs.proofs.install.installs.no_install_differs.Goals as goal

pub returns : goal.returns
returns c = no_install_differs_law
