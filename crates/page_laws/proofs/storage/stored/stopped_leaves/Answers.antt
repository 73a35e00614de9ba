use Rattle.page_laws.proofs.StorageParts.Stops.{stopped_leaves_law}
use Rattle.page_laws.proofs.storage.stored.stopped_leaves.Goals as goal

pub returns : goal.returns
returns c = stopped_leaves_law
