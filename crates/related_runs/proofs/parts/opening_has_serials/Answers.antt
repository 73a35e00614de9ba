use Rattle.related_runs.proofs.Asked.{opening_has_serials_law}
use Rattle.related_runs.proofs.parts.opening_has_serials.Goals as goal

pub returns : goal.returns
returns c = opening_has_serials_law
