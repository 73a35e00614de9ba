use Rattle.account_relation.proofs.StepParts.Accounting.{steps_without_locks_law}
use Rattle.account_relation.proofs.step.accounts.steps_without_locks.Goals as goal

pub returns : goal.returns
returns c = steps_without_locks_law
