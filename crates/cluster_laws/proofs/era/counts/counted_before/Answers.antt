use Rattle.cluster_laws.proofs.EraParts.Counted.{counted_before_law}
use Rattle.cluster_laws.proofs.era.counts.counted_before.Goals as goal

pub returns : goal.returns
returns c = counted_before_law
