use Rattle.cluster_laws.proofs.Counts.{steps_are_counted_law}
use Rattle.cluster_laws.proofs.count_laws.steps_are_counted.Goals as goal

pub returns : goal.returns
returns c = steps_are_counted_law
