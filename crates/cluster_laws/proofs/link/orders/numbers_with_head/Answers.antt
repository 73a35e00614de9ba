use Rattle.cluster_laws.proofs.LinkParts.Ordered.{numbers_with_head_law}
use Rattle.cluster_laws.proofs.link.orders.numbers_with_head.Goals as goal

pub returns : goal.returns
returns c = numbers_with_head_law
