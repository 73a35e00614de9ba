use Rattle.page_relation.proofs.WorkParts.Framing.{links_stay_law}
use Rattle.page_relation.proofs.work.frames.links_stay.Goals as goal

pub returns : goal.returns
returns c = links_stay_law
