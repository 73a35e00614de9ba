use Rattle.related_runs.proofs.LocksParts.Stepped.{steps_have_used_law}
use Rattle.related_runs.proofs.locks.used.steps_have_used.Goals as goal

pub returns : goal.returns
returns c = steps_have_used_law
