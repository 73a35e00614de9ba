use Rattle.related_runs.proofs.Within.{opening_has_within_law}
use Rattle.related_runs.proofs.parts.opening_has_within.Goals as goal

pub returns : goal.returns
returns c = opening_has_within_law
