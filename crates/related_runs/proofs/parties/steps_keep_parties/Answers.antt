use Rattle.related_runs.proofs.Spoken.{steps_keep_parties_law}
use Rattle.related_runs.proofs.parties.steps_keep_parties.Goals as goal

pub returns : goal.returns
returns c = steps_keep_parties_law
