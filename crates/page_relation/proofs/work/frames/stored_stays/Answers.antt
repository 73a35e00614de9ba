use Rattle.page_relation.proofs.WorkParts.Framing.{stored_stays_law}
use Rattle.page_relation.proofs.work.frames.stored_stays.Goals as goal

pub returns : goal.returns
returns c = stored_stays_law
