use Rattle.page_relation.proofs.WorkParts.Spending.{spends_elsewhere_law}
use Rattle.page_relation.proofs.work.sends.spends_elsewhere.Goals as goal

pub returns : goal.returns
returns c = spends_elsewhere_law
