use Rattle.cluster_laws.proofs.LinkParts.Ordered.{ordered_from_lower_law}
use Rattle.cluster_laws.proofs.link.orders.ordered_from_lower.Goals as goal

pub returns : goal.returns
returns c = ordered_from_lower_law
