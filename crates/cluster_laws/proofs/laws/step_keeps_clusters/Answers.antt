use Rattle.cluster_laws.proofs.Steps.{step_keeps_clusters_law}
use Rattle.cluster_laws.proofs.laws.step_keeps_clusters.Goals as goal

pub returns : goal.returns
returns c = step_keeps_clusters_law
