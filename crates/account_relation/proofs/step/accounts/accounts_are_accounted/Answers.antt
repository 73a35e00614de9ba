use Rattle.account_relation.proofs.StepParts.Accounting.{accounts_are_accounted_law}
use Rattle.account_relation.proofs.step.accounts.accounts_are_accounted.Goals as goal

pub returns : goal.returns
returns c = accounts_are_accounted_law
