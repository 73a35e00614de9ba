use Rattle.account_relation.proofs.FirstReplies.{steps_answer_law}
use Rattle.account_relation.proofs.replies.steps_answer.Goals as goal

pub returns : goal.returns
returns c = steps_answer_law
