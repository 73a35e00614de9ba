use Rattle.related_runs.proofs.Asked.{steps_have_serials_law}
use Rattle.related_runs.proofs.parts.steps_have_serials.Goals as goal

pub returns : goal.returns
returns c = steps_have_serials_law
