use Rattle.step_laws.proofs.Steps.{together_at_most_law}
use Rattle.step_laws.proofs.laws.together_at_most.Goals as goal

pub returns : goal.returns
returns c = together_at_most_law
