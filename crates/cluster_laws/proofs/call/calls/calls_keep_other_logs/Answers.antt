use Rattle.cluster_laws.proofs.CallParts.Disks.{calls_keep_other_logs_law}
use Rattle.cluster_laws.proofs.call.calls.calls_keep_other_logs.Goals as goal

pub returns : goal.returns
returns c = calls_keep_other_logs_law
