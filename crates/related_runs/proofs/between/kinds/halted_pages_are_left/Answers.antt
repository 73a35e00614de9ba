use Rattle.related_runs.proofs.BetweenParts.Losing.{halted_pages_are_left_law}
use Rattle.related_runs.proofs.between.kinds.halted_pages_are_left.Goals as goal

pub returns : goal.returns
returns c = halted_pages_are_left_law
