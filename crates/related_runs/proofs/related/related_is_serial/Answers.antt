use Rattle.related_runs.proofs.Safe.{related_is_serial_law}
use Rattle.related_runs.proofs.related.related_is_serial.Goals as goal

pub returns : goal.returns
returns c = related_is_serial_law
