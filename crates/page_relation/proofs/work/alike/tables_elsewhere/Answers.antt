use Rattle.page_relation.proofs.WorkParts.Quiet.{tables_elsewhere_law}
use Rattle.page_relation.proofs.work.alike.tables_elsewhere.Goals as goal

pub returns : goal.returns
returns c = tables_elsewhere_law
