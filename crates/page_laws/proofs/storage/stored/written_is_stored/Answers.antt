use Rattle.page_laws.proofs.StorageParts.Calls.{written_is_stored_law}
use Rattle.page_laws.proofs.storage.stored.written_is_stored.Goals as goal

pub returns : goal.returns
returns c = written_is_stored_law
