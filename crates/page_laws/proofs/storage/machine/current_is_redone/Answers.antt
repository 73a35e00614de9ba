use Rattle.page_laws.proofs.StorageParts.AsSteps.{current_is_redone_law}
use Rattle.page_laws.proofs.storage.machine.current_is_redone.Goals as goal

pub returns : goal.returns
returns c = current_is_redone_law
