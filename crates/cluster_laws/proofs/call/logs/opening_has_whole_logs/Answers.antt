use Rattle.cluster_laws.proofs.CallParts.WholeLogs.{opening_has_whole_logs_law}
use Rattle.cluster_laws.proofs.call.logs.opening_has_whole_logs.Goals as goal

pub returns : goal.returns
returns c = opening_has_whole_logs_law
