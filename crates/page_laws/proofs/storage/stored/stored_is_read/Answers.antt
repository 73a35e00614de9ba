use Rattle.page_laws.proofs.StorageParts.ReadPages.{stored_is_read_law}
use Rattle.page_laws.proofs.storage.stored.stored_is_read.Goals as goal

pub returns : goal.returns
returns c = stored_is_read_law
