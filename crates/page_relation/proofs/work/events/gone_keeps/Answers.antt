use Rattle.page_relation.proofs.WorkParts.Storing.{gone_keeps_law}
use Rattle.page_relation.proofs.work.events.gone_keeps.Goals as goal

pub returns : goal.returns
returns c = gone_keeps_law
