use Rattle.cluster_laws.proofs.Counts.{links_grow_by_most_law}
use Rattle.cluster_laws.proofs.count_laws.links_grow_by_most.Goals as goal

pub returns : goal.returns
returns c = links_grow_by_most_law
