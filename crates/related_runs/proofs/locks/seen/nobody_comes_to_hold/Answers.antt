use Rattle.related_runs.proofs.LocksParts.Holding.{nobody_comes_to_hold_law}
use Rattle.related_runs.proofs.locks.seen.nobody_comes_to_hold.Goals as goal

pub returns : goal.returns
returns c = nobody_comes_to_hold_law
