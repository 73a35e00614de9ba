use Rattle.whole_runs.proofs.InstallParts.Lost.{purge_is_midway_law}
use Rattle.whole_runs.proofs.install.stays.purge_is_midway.Goals as goal

pub returns : goal.returns
returns c = purge_is_midway_law
