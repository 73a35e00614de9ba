use Rattle.related_runs.proofs.BetweenParts.Stepped.{steps_have_writes_law}
use Rattle.related_runs.proofs.between.parts.steps_have_writes.Goals as goal

pub returns : goal.returns
returns c = steps_have_writes_law
