use Rattle.whole_runs.proofs.HaltParts.Stopping.{installs_write_versions_law}
use Rattle.whole_runs.proofs.halt.halts.installs_write_versions.Goals as goal

pub returns : goal.returns
returns c = installs_write_versions_law
