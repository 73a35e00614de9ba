use Rattle.end_relation.proofs.Events.{abort_is_kept_law}
use Rattle.end_relation.proofs.ends.abort_is_kept.Goals as goal

pub returns : goal.returns
returns c = abort_is_kept_law
