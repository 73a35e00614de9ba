use Rattle.whole_runs.proofs.InstallParts.Lost.{lost_is_midway_law}
use Rattle.whole_runs.proofs.install.stays.lost_is_midway.Goals as goal

pub returns : goal.returns
returns c = lost_is_midway_law
