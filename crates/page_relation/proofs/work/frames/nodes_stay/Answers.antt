use Rattle.page_relation.proofs.WorkParts.Framing.{nodes_stay_law}
use Rattle.page_relation.proofs.work.frames.nodes_stay.Goals as goal

pub returns : goal.returns
returns c = nodes_stay_law
