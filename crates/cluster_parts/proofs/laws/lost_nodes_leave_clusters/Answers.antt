use Rattle.cluster_parts.proofs.Lost.{lost_nodes_leave_clusters_law}
use Rattle.cluster_parts.proofs.laws.lost_nodes_leave_clusters.Goals as goal

pub returns : goal.returns
returns c = lost_nodes_leave_clusters_law
