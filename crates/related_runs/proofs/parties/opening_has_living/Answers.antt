use Rattle.related_runs.proofs.Spoken.{opening_has_living_law}
use Rattle.related_runs.proofs.parties.opening_has_living.Goals as goal

pub returns : goal.returns
returns c = opening_has_living_law
