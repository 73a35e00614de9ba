use Rattle.page_laws.proofs.StorageParts.AsSteps.{current_stands_law}
use Rattle.page_laws.proofs.storage.machine.current_stands.Goals as goal

pub returns : goal.returns
returns c = current_stands_law
