use Rattle.account_relation.proofs.StepParts.SentParts.{steps_send_law}
use Rattle.account_relation.proofs.step.sends.steps_send.Goals as goal

pub returns : goal.returns
returns c = steps_send_law
