use Rattle.page_relation.proofs.WorkParts.Framing.{tables_stay_law}
use Rattle.page_relation.proofs.work.frames.tables_stay.Goals as goal

pub returns : goal.returns
returns c = tables_stay_law
