use Rattle.cluster_laws.proofs.LinkParts.Ordered.{numbers_at_the_end_law}
use Rattle.cluster_laws.proofs.link.orders.numbers_at_the_end.Goals as goal

pub returns : goal.returns
returns c = numbers_at_the_end_law
