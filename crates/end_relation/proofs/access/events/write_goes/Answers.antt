use Rattle.end_relation.proofs.AccessParts.Whole.{write_goes_law}
use Rattle.end_relation.proofs.access.events.write_goes.Goals as goal

pub returns : goal.returns
returns c = write_goes_law
