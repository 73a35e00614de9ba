use Rattle.cluster_laws.proofs.LinkParts.Rising.{epochs_go_on_law}
use Rattle.cluster_laws.proofs.link.steps.epochs_go_on.Goals as goal

pub returns : goal.returns
returns c = epochs_go_on_law
