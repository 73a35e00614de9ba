use Rattle.install_plans.proofs.Births.{births_change_no_plan_law}
use Rattle.install_plans.proofs.laws.births_change_no_plan.Goals as goal

pub returns : goal.returns
returns c = births_change_no_plan_law
