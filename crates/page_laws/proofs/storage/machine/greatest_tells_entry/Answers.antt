use Rattle.page_laws.proofs.StorageParts.AsSteps.{greatest_tells_entry_law}
use Rattle.page_laws.proofs.storage.machine.greatest_tells_entry.Goals as goal

pub returns : goal.returns
returns c = greatest_tells_entry_law
