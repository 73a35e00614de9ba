use Rattle.related_runs.proofs.Asked.{steps_have_asked_law}
use Rattle.related_runs.proofs.parts.steps_have_asked.Goals as goal

pub returns : goal.returns
returns c = steps_have_asked_law
