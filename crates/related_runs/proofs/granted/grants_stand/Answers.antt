use Rattle.related_runs.proofs.Stepped.{grants_stand_law}
use Rattle.related_runs.proofs.granted.grants_stand.Goals as goal

pub returns : goal.returns
returns c = grants_stand_law
