use Rattle.related_runs.proofs.LocksParts.Stands.{works_are_used_law}
use Rattle.related_runs.proofs.locks.seen.works_are_used.Goals as goal

pub returns : goal.returns
returns c = works_are_used_law
