use Rattle.page_laws.proofs.StorageParts.Calls.{whole_stays_law}
use Rattle.page_laws.proofs.storage.stored.whole_stays.Goals as goal

pub returns : goal.returns
returns c = whole_stays_law
