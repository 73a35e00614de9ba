use Rattle.cluster_laws.proofs.EraParts.Counted.{counts_stay_law}
use Rattle.cluster_laws.proofs.era.counts.counts_stay.Goals as goal

pub returns : goal.returns
returns c = counts_stay_law
