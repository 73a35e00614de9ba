use Rattle.page_laws.proofs.StorageParts.AsSteps.{cuts_are_cutting_law}
use Rattle.page_laws.proofs.storage.machine.cuts_are_cutting.Goals as goal

pub returns : goal.returns
returns c = cuts_are_cutting_law
