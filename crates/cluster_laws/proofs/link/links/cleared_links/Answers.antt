use Rattle.cluster_laws.proofs.LinkParts.Linked.{cleared_links_law}
use Rattle.cluster_laws.proofs.link.links.cleared_links.Goals as goal

pub returns : goal.returns
returns c = cleared_links_law
