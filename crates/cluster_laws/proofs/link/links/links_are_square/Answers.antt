use Rattle.cluster_laws.proofs.LinkParts.Linked.{links_are_square_law}
use Rattle.cluster_laws.proofs.link.links.links_are_square.Goals as goal

pub returns : goal.returns
returns c = links_are_square_law
