use Rattle.page_relation.proofs.WorkParts.Quiet.{writes_elsewhere_law}
use Rattle.page_relation.proofs.work.alike.writes_elsewhere.Goals as goal

pub returns : goal.returns
returns c = writes_elsewhere_law
