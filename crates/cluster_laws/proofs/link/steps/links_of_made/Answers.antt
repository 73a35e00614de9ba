use Rattle.cluster_laws.proofs.LinkParts.Stepped.{links_of_made_law}
use Rattle.cluster_laws.proofs.link.steps.links_of_made.Goals as goal

pub returns : goal.returns
returns c = links_of_made_law
