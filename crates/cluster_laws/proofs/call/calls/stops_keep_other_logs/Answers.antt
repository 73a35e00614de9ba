use Rattle.cluster_laws.proofs.CallParts.Disks.{stops_keep_other_logs_law}
use Rattle.cluster_laws.proofs.call.calls.stops_keep_other_logs.Goals as goal

pub returns : goal.returns
returns c = stops_keep_other_logs_law
