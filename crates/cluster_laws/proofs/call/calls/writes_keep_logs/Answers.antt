use Rattle.cluster_laws.proofs.CallParts.Disks.{writes_keep_logs_law}
use Rattle.cluster_laws.proofs.call.calls.writes_keep_logs.Goals as goal

pub returns : goal.returns
returns c = writes_keep_logs_law
