use Rattle.cluster_laws.proofs.LinkParts.Rising.{steps_keep_order_law}
use Rattle.cluster_laws.proofs.link.steps.steps_keep_order.Goals as goal

pub returns : goal.returns
returns c = steps_keep_order_law
