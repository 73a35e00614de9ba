use Rattle.page_relation.proofs.WorkParts.Sending.{send_is_kept_law}
use Rattle.page_relation.proofs.work.sends.send_is_kept.Goals as goal

pub returns : goal.returns
returns c = send_is_kept_law
