use Rattle.related_runs.proofs.BetweenParts.Wrote.{runs_have_writes_law}
use Rattle.related_runs.proofs.between.parts.runs_have_writes.Goals as goal

pub returns : goal.returns
returns c = runs_have_writes_law
