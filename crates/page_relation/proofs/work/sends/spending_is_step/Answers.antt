use Rattle.page_relation.proofs.WorkParts.Spending.{spending_is_step_law}
use Rattle.page_relation.proofs.work.sends.spending_is_step.Goals as goal

pub returns : goal.returns
returns c = spending_is_step_law
