use Rattle.page_relation.proofs.WorkParts.Started.{head_is_said_law}
use Rattle.page_relation.proofs.work.ends.head_is_said.Goals as goal

pub returns : goal.returns
returns c = head_is_said_law
