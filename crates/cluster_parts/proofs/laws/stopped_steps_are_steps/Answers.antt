use Rattle.cluster_parts.proofs.Finished.{stopped_steps_are_steps_law}
use Rattle.cluster_parts.proofs.laws.stopped_steps_are_steps.Goals as goal

pub returns : goal.returns
returns c = stopped_steps_are_steps_law
