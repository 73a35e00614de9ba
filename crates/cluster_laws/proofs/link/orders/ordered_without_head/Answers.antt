use Rattle.cluster_laws.proofs.LinkParts.Ordered.{ordered_without_head_law}
use Rattle.cluster_laws.proofs.link.orders.ordered_without_head.Goals as goal

pub returns : goal.returns
returns c = ordered_without_head_law
