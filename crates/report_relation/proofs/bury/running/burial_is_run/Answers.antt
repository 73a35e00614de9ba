use Rattle.report_relation.proofs.BuryParts.Runs.{burial_is_run_law}
use Rattle.report_relation.proofs.bury.running.burial_is_run.Goals as goal

pub returns : goal.returns
returns c = burial_is_run_law
