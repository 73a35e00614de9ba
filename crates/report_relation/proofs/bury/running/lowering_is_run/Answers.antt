use Rattle.report_relation.proofs.BuryParts.Runs.{lowering_is_run_law}
use Rattle.report_relation.proofs.bury.running.lowering_is_run.Goals as goal

pub returns : goal.returns
returns c = lowering_is_run_law
