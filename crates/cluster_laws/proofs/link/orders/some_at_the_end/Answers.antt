use Rattle.cluster_laws.proofs.LinkParts.Ordered.{some_at_the_end_law}
use Rattle.cluster_laws.proofs.link.orders.some_at_the_end.Goals as goal

pub returns : goal.returns
returns c = some_at_the_end_law
