use Rattle.cluster_laws.proofs.LinkParts.Stepped.{links_step_law}
use Rattle.cluster_laws.proofs.link.steps.links_step.Goals as goal

pub returns : goal.returns
returns c = links_step_law
