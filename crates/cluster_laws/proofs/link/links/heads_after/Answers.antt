use Rattle.cluster_laws.proofs.LinkParts.Linked.{heads_after_law}
use Rattle.cluster_laws.proofs.link.links.heads_after.Goals as goal

pub returns : goal.returns
returns c = heads_after_law
