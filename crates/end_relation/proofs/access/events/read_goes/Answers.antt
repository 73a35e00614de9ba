use Rattle.end_relation.proofs.AccessParts.Whole.{read_goes_law}
use Rattle.end_relation.proofs.access.events.read_goes.Goals as goal

pub returns : goal.returns
returns c = read_goes_law
