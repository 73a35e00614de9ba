use Rattle.related_runs.proofs.KeptLogs.{related_keeps_logs_law}
use Rattle.related_runs.proofs.parts.related_keeps_logs.Goals as goal

pub returns : goal.returns
returns c = related_keeps_logs_law
