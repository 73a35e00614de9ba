use Rattle.page_laws.proofs.StorageParts.AsSteps.{commits_are_forced_law}
use Rattle.page_laws.proofs.storage.machine.commits_are_forced.Goals as goal

pub returns : goal.returns
returns c = commits_are_forced_law
