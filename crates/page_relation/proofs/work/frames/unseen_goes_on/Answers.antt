use Rattle.page_relation.proofs.WorkParts.Framing.{unseen_goes_on_law}
use Rattle.page_relation.proofs.work.frames.unseen_goes_on.Goals as goal

pub returns : goal.returns
returns c = unseen_goes_on_law
