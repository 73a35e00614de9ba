use Rattle.page_relation.proofs.WorkParts.Storing.{back_keeps_law}
use Rattle.page_relation.proofs.work.events.back_keeps.Goals as goal

pub returns : goal.returns
returns c = back_keeps_law
