use Rattle.step_laws.proofs.Steps.{replies_at_most_law}
use Rattle.step_laws.proofs.laws.replies_at_most.Goals as goal

pub returns : goal.returns
returns c = replies_at_most_law
