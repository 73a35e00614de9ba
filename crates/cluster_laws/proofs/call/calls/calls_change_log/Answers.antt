use Rattle.cluster_laws.proofs.CallParts.Disks.{calls_change_log_law}
use Rattle.cluster_laws.proofs.call.calls.calls_change_log.Goals as goal

pub returns : goal.returns
returns c = calls_change_log_law
