use Rattle.related_runs.proofs.BetweenParts.Leaving.{pages_are_between_law}
use Rattle.related_runs.proofs.between.kinds.pages_are_between.Goals as goal

pub returns : goal.returns
returns c = pages_are_between_law
