use Rattle.cluster_laws.proofs.Steps.{runs_are_clusters_law}
use Rattle.cluster_laws.proofs.laws.runs_are_clusters.Goals as goal

pub returns : goal.returns
returns c = runs_are_clusters_law
