use Rattle.related_runs.proofs.BetweenParts.Losing.{lost_kinds_are_left_law}
use Rattle.related_runs.proofs.between.kinds.lost_kinds_are_left.Goals as goal

pub returns : goal.returns
returns c = lost_kinds_are_left_law
