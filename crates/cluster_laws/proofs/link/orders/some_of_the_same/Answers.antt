use Rattle.cluster_laws.proofs.LinkParts.Ordered.{some_of_the_same_law}
use Rattle.cluster_laws.proofs.link.orders.some_of_the_same.Goals as goal

pub returns : goal.returns
returns c = some_of_the_same_law
