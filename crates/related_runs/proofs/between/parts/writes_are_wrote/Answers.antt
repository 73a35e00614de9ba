use Rattle.related_runs.proofs.BetweenParts.Wrote.{writes_are_wrote_law}
use Rattle.related_runs.proofs.between.parts.writes_are_wrote.Goals as goal

pub returns : goal.returns
returns c = writes_are_wrote_law
