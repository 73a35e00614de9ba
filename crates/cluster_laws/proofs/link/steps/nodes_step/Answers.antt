use Rattle.cluster_laws.proofs.LinkParts.Nodes.{nodes_step_law}
use Rattle.cluster_laws.proofs.link.steps.nodes_step.Goals as goal

pub returns : goal.returns
returns c = nodes_step_law
