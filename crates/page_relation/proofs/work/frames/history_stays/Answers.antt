use Rattle.page_relation.proofs.WorkParts.Framing.{history_stays_law}
use Rattle.page_relation.proofs.work.frames.history_stays.Goals as goal

pub returns : goal.returns
returns c = history_stays_law
