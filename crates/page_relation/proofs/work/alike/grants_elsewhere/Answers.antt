use Rattle.page_relation.proofs.WorkParts.Granting.{grants_elsewhere_law}
use Rattle.page_relation.proofs.work.alike.grants_elsewhere.Goals as goal

pub returns : goal.returns
returns c = grants_elsewhere_law
