use Rattle.cluster_laws.proofs.LinkParts.Ordered.{some_without_head_law}
use Rattle.cluster_laws.proofs.link.orders.some_without_head.Goals as goal

pub returns : goal.returns
returns c = some_without_head_law
