use Rattle.page_laws.proofs.MomentParts.AsSteps.{writes_are_writing_law}
use Rattle.page_laws.proofs.moment.machine.writes_are_writing.Goals as goal

pub returns : goal.returns
returns c = writes_are_writing_law
