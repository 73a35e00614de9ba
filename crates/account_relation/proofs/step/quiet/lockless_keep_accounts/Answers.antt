use Rattle.account_relation.proofs.StepParts.Lockless.{lockless_keep_accounts_law}
use Rattle.account_relation.proofs.step.quiet.lockless_keep_accounts.Goals as goal

pub returns : goal.returns
returns c = lockless_keep_accounts_law
