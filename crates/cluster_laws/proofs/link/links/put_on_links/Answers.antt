use Rattle.cluster_laws.proofs.LinkParts.Linked.{put_on_links_law}
use Rattle.cluster_laws.proofs.link.links.put_on_links.Goals as goal

pub returns : goal.returns
returns c = put_on_links_law
