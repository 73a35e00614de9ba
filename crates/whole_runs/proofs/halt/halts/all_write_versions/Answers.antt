use Rattle.whole_runs.proofs.HaltParts.Stopping.{all_write_versions_law}
use Rattle.whole_runs.proofs.halt.halts.all_write_versions.Goals as goal

pub returns : goal.returns
returns c = all_write_versions_law
