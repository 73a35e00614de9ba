use Rattle.page_relation.proofs.WorkParts.Revoking.{back_is_not_earlier_law}
use Rattle.page_relation.proofs.work.sends.back_is_not_earlier.Goals as goal

pub returns : goal.returns
returns c = back_is_not_earlier_law
