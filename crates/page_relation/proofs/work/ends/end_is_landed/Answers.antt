use Rattle.page_relation.proofs.WorkParts.Ended.{end_is_landed_law}
use Rattle.page_relation.proofs.work.ends.end_is_landed.Goals as goal

pub returns : goal.returns
returns c = end_is_landed_law
