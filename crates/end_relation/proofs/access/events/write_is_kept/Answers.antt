use Rattle.end_relation.proofs.AccessParts.Whole.{write_is_kept_law}
use Rattle.end_relation.proofs.access.events.write_is_kept.Goals as goal

pub returns : goal.returns
returns c = write_is_kept_law
