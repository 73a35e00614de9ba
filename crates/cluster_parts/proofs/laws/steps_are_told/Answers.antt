use Rattle.cluster_parts.proofs.Carried.{steps_are_told_law}
use Rattle.cluster_parts.proofs.laws.steps_are_told.Goals as goal

pub returns : goal.returns
returns c = steps_are_told_law
