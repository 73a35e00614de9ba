use Rattle.page_relation.proofs.WorkParts.Quiet.{quiet_replies_law}
use Rattle.page_relation.proofs.work.alike.quiet_replies.Goals as goal

pub returns : goal.returns
returns c = quiet_replies_law
