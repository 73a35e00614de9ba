use Rattle.page_relation.proofs.WorkParts.Quiet.{sends_elsewhere_law}
use Rattle.page_relation.proofs.work.alike.sends_elsewhere.Goals as goal

pub returns : goal.returns
returns c = sends_elsewhere_law
