use Rattle.page_relation.proofs.WorkParts.Framing.{homes_stay_law}
use Rattle.page_relation.proofs.work.frames.homes_stay.Goals as goal

pub returns : goal.returns
returns c = homes_stay_law
