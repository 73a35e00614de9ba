use Rattle.cluster_laws.proofs.LinkParts.Ordered.{some_of_fewer_law}
use Rattle.cluster_laws.proofs.link.orders.some_of_fewer.Goals as goal

pub returns : goal.returns
returns c = some_of_fewer_law
