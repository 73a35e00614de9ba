use Rattle.page_relation.proofs.WorkParts.Sending.{send_is_linked_law}
use Rattle.page_relation.proofs.work.sends.send_is_linked.Goals as goal

pub returns : goal.returns
returns c = send_is_linked_law
