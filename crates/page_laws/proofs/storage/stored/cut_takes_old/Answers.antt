use Rattle.page_laws.proofs.StorageParts.Calls.{cut_takes_old_law}
use Rattle.page_laws.proofs.storage.stored.cut_takes_old.Goals as goal

pub returns : goal.returns
returns c = cut_takes_old_law
