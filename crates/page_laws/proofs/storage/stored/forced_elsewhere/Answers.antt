use Rattle.page_laws.proofs.StorageParts.Calls.{forced_elsewhere_law}
use Rattle.page_laws.proofs.storage.stored.forced_elsewhere.Goals as goal

pub returns : goal.returns
returns c = forced_elsewhere_law
