use Rattle.page_relation.proofs.WorkParts.Quiet.{homes_elsewhere_law}
use Rattle.page_relation.proofs.work.alike.homes_elsewhere.Goals as goal

pub returns : goal.returns
returns c = homes_elsewhere_law
