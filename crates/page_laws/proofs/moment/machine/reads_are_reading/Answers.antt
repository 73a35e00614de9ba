use Rattle.page_laws.proofs.MomentParts.AsSteps.{reads_are_reading_law}
use Rattle.page_laws.proofs.moment.machine.reads_are_reading.Goals as goal

pub returns : goal.returns
returns c = reads_are_reading_law
