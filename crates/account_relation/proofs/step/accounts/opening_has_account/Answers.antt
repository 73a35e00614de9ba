use Rattle.account_relation.proofs.StepParts.Accounting.{opening_has_account_law}
use Rattle.account_relation.proofs.step.accounts.opening_has_account.Goals as goal

pub returns : goal.returns
returns c = opening_has_account_law
