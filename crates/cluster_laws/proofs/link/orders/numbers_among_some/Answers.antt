use Rattle.cluster_laws.proofs.LinkParts.Ordered.{numbers_among_some_law}
use Rattle.cluster_laws.proofs.link.orders.numbers_among_some.Goals as goal

pub returns : goal.returns
returns c = numbers_among_some_law
