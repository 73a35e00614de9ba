use Rattle.related_runs.proofs.Stepped.{steps_keep_serials_law}
use Rattle.related_runs.proofs.granted.steps_keep_serials.Goals as goal

pub returns : goal.returns
returns c = steps_keep_serials_law
