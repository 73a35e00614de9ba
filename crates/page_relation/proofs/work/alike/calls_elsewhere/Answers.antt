use Rattle.page_relation.proofs.WorkParts.Quiet.{calls_elsewhere_law}
use Rattle.page_relation.proofs.work.alike.calls_elsewhere.Goals as goal

pub returns : goal.returns
returns c = calls_elsewhere_law
