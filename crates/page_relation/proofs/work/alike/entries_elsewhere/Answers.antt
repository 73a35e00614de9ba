use Rattle.page_relation.proofs.WorkParts.Quiet.{entries_elsewhere_law}
use Rattle.page_relation.proofs.work.alike.entries_elsewhere.Goals as goal

pub returns : goal.returns
returns c = entries_elsewhere_law
