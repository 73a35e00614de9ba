use Rattle.related_runs.proofs.LocksParts.Stands.{readers_are_used_law}
use Rattle.related_runs.proofs.locks.seen.readers_are_used.Goals as goal

pub returns : goal.returns
returns c = readers_are_used_law
