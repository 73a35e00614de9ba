use Rattle.cluster_laws.proofs.LinkParts.Linked.{empty_links_law}
use Rattle.cluster_laws.proofs.link.links.empty_links.Goals as goal

pub returns : goal.returns
returns c = empty_links_law
