use Rattle.related_runs.proofs.BetweenParts.Stepped.{opening_has_writes_law}
use Rattle.related_runs.proofs.between.parts.opening_has_writes.Goals as goal

pub returns : goal.returns
returns c = opening_has_writes_law
