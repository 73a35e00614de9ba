use Rattle.cluster_laws.proofs.EraParts.Counted.{nothing_counts_at_start_law}
use Rattle.cluster_laws.proofs.era.counts.nothing_counts_at_start.Goals as goal

pub returns : goal.returns
returns c = nothing_counts_at_start_law
