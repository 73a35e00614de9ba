use Rattle.related_runs.proofs.BetweenParts.Quiet.{quiet_kinds_are_left_law}
use Rattle.related_runs.proofs.between.kinds.quiet_kinds_are_left.Goals as goal

pub returns : goal.returns
returns c = quiet_kinds_are_left_law
