use Rattle.page_laws.proofs.StorageParts.AsSteps.{records_are_old_law}
use Rattle.page_laws.proofs.storage.machine.records_are_old.Goals as goal

pub returns : goal.returns
returns c = records_are_old_law
