use Rattle.related_runs.proofs.LocksParts.Stands.{used_is_seen_law}
use Rattle.related_runs.proofs.locks.seen.used_is_seen.Goals as goal

pub returns : goal.returns
returns c = used_is_seen_law
