use Rattle.node_laws.proofs.Steps.{steps_keep_numbers_law}
use Rattle.node_laws.proofs.laws.steps_keep_numbers.Goals as goal

pub returns : goal.returns
returns c = steps_keep_numbers_law
