use Rattle.page_laws.proofs.MomentParts.AsSteps.{commits_are_committing_law}
use Rattle.page_laws.proofs.moment.machine.commits_are_committing.Goals as goal

pub returns : goal.returns
returns c = commits_are_committing_law
