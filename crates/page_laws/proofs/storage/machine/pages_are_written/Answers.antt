use Rattle.page_laws.proofs.StorageParts.AsSteps.{pages_are_written_law}
use Rattle.page_laws.proofs.storage.machine.pages_are_written.Goals as goal

pub returns : goal.returns
returns c = pages_are_written_law
