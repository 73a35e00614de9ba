use Rattle.cluster_laws.proofs.EraParts.Nexts.{next_goes_on_law}
use Rattle.cluster_laws.proofs.era.eras.next_goes_on.Goals as goal

pub returns : goal.returns
returns c = next_goes_on_law
