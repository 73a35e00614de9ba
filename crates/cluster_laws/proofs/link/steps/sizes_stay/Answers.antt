use Rattle.cluster_laws.proofs.LinkParts.Stepped.{sizes_stay_law}
use Rattle.cluster_laws.proofs.link.steps.sizes_stay.Goals as goal

pub returns : goal.returns
returns c = sizes_stay_law
