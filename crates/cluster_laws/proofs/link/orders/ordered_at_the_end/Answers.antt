use Rattle.cluster_laws.proofs.LinkParts.Ordered.{ordered_at_the_end_law}
use Rattle.cluster_laws.proofs.link.orders.ordered_at_the_end.Goals as goal

pub returns : goal.returns
returns c = ordered_at_the_end_law
