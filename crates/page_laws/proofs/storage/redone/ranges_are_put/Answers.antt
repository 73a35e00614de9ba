use Rattle.page_laws.proofs.StorageParts.Redos.{ranges_are_put_law}
use Rattle.page_laws.proofs.storage.redone.ranges_are_put.Goals as goal

pub returns : goal.returns
returns c = ranges_are_put_law
