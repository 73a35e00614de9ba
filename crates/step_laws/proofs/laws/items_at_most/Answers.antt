use Rattle.step_laws.proofs.Steps.{items_at_most_law}
use Rattle.step_laws.proofs.laws.items_at_most.Goals as goal

pub returns : goal.returns
returns c = items_at_most_law
