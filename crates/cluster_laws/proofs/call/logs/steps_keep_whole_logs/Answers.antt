use Rattle.cluster_laws.proofs.CallParts.WholeLogs.{steps_keep_whole_logs_law}
use Rattle.cluster_laws.proofs.call.logs.steps_keep_whole_logs.Goals as goal

pub returns : goal.returns
returns c = steps_keep_whole_logs_law
