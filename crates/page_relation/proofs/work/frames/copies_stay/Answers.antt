use Rattle.page_relation.proofs.WorkParts.Framing.{copies_stay_law}
use Rattle.page_relation.proofs.work.frames.copies_stay.Goals as goal

pub returns : goal.returns
returns c = copies_stay_law
