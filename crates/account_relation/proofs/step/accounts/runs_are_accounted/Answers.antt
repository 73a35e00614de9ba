use Rattle.account_relation.proofs.StepParts.Accounting.{runs_are_accounted_law}
use Rattle.account_relation.proofs.step.accounts.runs_are_accounted.Goals as goal

pub returns : goal.returns
returns c = runs_are_accounted_law
