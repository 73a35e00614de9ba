use Rattle.page_laws.proofs.StorageParts.Calls.{trimmed_is_stored_law}
use Rattle.page_laws.proofs.storage.stored.trimmed_is_stored.Goals as goal

pub returns : goal.returns
returns c = trimmed_is_stored_law
