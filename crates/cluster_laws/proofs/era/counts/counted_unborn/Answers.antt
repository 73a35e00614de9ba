use Rattle.cluster_laws.proofs.EraParts.Counted.{counted_unborn_law}
use Rattle.cluster_laws.proofs.era.counts.counted_unborn.Goals as goal

pub returns : goal.returns
returns c = counted_unborn_law
