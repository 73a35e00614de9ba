use Rattle.step_laws.proofs.Steps.{sends_at_most_law}
use Rattle.step_laws.proofs.laws.sends_at_most.Goals as goal

pub returns : goal.returns
returns c = sends_at_most_law
