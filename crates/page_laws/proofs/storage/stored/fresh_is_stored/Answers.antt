use Rattle.page_laws.proofs.StorageParts.ReadPages.{fresh_is_stored_law}
use Rattle.page_laws.proofs.storage.stored.fresh_is_stored.Goals as goal

pub returns : goal.returns
returns c = fresh_is_stored_law
