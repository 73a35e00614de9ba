use Rattle.step_laws.proofs.Reached.{together_is_reached_law}
use Rattle.step_laws.proofs.laws.together_is_reached.Goals as goal

pub returns : goal.returns
returns c = together_is_reached_law
