use Rattle.cluster_laws.proofs.LinkParts.Come.{coming_steps_law}
use Rattle.cluster_laws.proofs.link.steps.coming_steps.Goals as goal

pub returns : goal.returns
returns c = coming_steps_law
