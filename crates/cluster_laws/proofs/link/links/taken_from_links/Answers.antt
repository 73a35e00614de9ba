use Rattle.cluster_laws.proofs.LinkParts.Linked.{taken_from_links_law}
use Rattle.cluster_laws.proofs.link.links.taken_from_links.Goals as goal

pub returns : goal.returns
returns c = taken_from_links_law
