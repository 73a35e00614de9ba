use Rattle.end_relation.proofs.Going.{abort_goes_law}
use Rattle.end_relation.proofs.ends.abort_goes.Goals as goal

pub returns : goal.returns
returns c = abort_goes_law
