use Rattle.account_relation.proofs.StepParts.Lockless.{lockless_send_none_law}
use Rattle.account_relation.proofs.step.quiet.lockless_send_none.Goals as goal

pub returns : goal.returns
returns c = lockless_send_none_law
