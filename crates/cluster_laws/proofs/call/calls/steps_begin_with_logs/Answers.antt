use Rattle.cluster_laws.proofs.CallParts.Events.{steps_begin_with_logs_law}
use Rattle.cluster_laws.proofs.call.calls.steps_begin_with_logs.Goals as goal

pub returns : goal.returns
returns c = steps_begin_with_logs_law
