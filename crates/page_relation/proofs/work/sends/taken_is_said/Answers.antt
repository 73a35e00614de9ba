use Rattle.page_relation.proofs.WorkParts.Taking.{taken_is_said_law}
use Rattle.page_relation.proofs.work.sends.taken_is_said.Goals as goal

pub returns : goal.returns
returns c = taken_is_said_law
