use Rattle.page_relation.proofs.WorkParts.Quiet.{reads_elsewhere_law}
use Rattle.page_relation.proofs.work.alike.reads_elsewhere.Goals as goal

pub returns : goal.returns
returns c = reads_elsewhere_law
