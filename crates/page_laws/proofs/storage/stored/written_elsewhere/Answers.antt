use Rattle.page_laws.proofs.StorageParts.Calls.{written_elsewhere_law}
use Rattle.page_laws.proofs.storage.stored.written_elsewhere.Goals as goal

pub returns : goal.returns
returns c = written_elsewhere_law
