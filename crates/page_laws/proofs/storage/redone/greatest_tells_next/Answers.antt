use Rattle.page_laws.proofs.StorageParts.Redos.{greatest_tells_next_law}
use Rattle.page_laws.proofs.storage.redone.greatest_tells_next.Goals as goal

pub returns : goal.returns
returns c = greatest_tells_next_law
