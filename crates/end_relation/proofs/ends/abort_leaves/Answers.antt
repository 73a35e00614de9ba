use Rattle.end_relation.proofs.Events.{abort_leaves_law}
use Rattle.end_relation.proofs.ends.abort_leaves.Goals as goal

pub returns : goal.returns
returns c = abort_leaves_law
