use Rattle.end_relation.proofs.AccessParts.Whole.{read_is_kept_law}
use Rattle.end_relation.proofs.access.events.read_is_kept.Goals as goal

pub returns : goal.returns
returns c = read_is_kept_law
