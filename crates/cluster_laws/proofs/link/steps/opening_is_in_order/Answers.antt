use Rattle.cluster_laws.proofs.LinkParts.Rising.{opening_is_in_order_law}
use Rattle.cluster_laws.proofs.link.steps.opening_is_in_order.Goals as goal

pub returns : goal.returns
returns c = opening_is_in_order_law
