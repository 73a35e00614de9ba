use Rattle.cluster_laws.proofs.LinkParts.Linked.{sent_on_links_law}
use Rattle.cluster_laws.proofs.link.links.sent_on_links.Goals as goal

pub returns : goal.returns
returns c = sent_on_links_law
