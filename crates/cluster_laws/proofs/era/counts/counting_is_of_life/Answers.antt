use Rattle.cluster_laws.proofs.EraParts.Counted.{counting_is_of_life_law}
use Rattle.cluster_laws.proofs.era.counts.counting_is_of_life.Goals as goal

pub returns : goal.returns
returns c = counting_is_of_life_law
