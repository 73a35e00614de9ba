use Rattle.cluster_laws.proofs.Steps.{opening_is_cluster_law}
use Rattle.cluster_laws.proofs.laws.opening_is_cluster.Goals as goal

pub returns : goal.returns
returns c = opening_is_cluster_law
