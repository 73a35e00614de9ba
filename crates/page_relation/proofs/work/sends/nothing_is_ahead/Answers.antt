use Rattle.page_relation.proofs.WorkParts.Sending.{nothing_is_ahead_law}
use Rattle.page_relation.proofs.work.sends.nothing_is_ahead.Goals as goal

pub returns : goal.returns
returns c = nothing_is_ahead_law
