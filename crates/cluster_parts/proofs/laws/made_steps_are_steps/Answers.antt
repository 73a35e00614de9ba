use Rattle.cluster_parts.proofs.Finished.{made_steps_are_steps_law}
use Rattle.cluster_parts.proofs.laws.made_steps_are_steps.Goals as goal

pub returns : goal.returns
returns c = made_steps_are_steps_law
