use Rattle.cluster_laws.proofs.LinkParts.Ordered.{ordered_among_some_law}
use Rattle.cluster_laws.proofs.link.orders.ordered_among_some.Goals as goal

pub returns : goal.returns
returns c = ordered_among_some_law
