use Rattle.whole_runs.proofs.HaltParts.Stopping.{reports_write_versions_law}
use Rattle.whole_runs.proofs.halt.halts.reports_write_versions.Goals as goal

pub returns : goal.returns
returns c = reports_write_versions_law
