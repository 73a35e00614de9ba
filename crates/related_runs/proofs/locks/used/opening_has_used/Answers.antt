use Rattle.related_runs.proofs.LocksParts.Stepped.{opening_has_used_law}
use Rattle.related_runs.proofs.locks.used.opening_has_used.Goals as goal

pub returns : goal.returns
returns c = opening_has_used_law
