use Rattle.cluster_laws.proofs.EraParts.Counted.{steps_count_less_law}
use Rattle.cluster_laws.proofs.era.counts.steps_count_less.Goals as goal

pub returns : goal.returns
returns c = steps_count_less_law
