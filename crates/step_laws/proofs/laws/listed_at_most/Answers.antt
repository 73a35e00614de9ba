use Rattle.step_laws.proofs.Steps.{listed_at_most_law}
use Rattle.step_laws.proofs.laws.listed_at_most.Goals as goal

pub returns : goal.returns
returns c = listed_at_most_law
