use Rattle.related_runs.proofs.Within.{steps_have_within_law}
use Rattle.related_runs.proofs.parts.steps_have_within.Goals as goal

pub returns : goal.returns
returns c = steps_have_within_law
