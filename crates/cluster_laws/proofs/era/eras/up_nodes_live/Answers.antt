use Rattle.cluster_laws.proofs.EraParts.Lives.{up_nodes_live_law}
use Rattle.cluster_laws.proofs.era.eras.up_nodes_live.Goals as goal

pub returns : goal.returns
returns c = up_nodes_live_law
