use Rattle.cluster_laws.proofs.EraParts.Ages.{eras_go_on_law}
use Rattle.cluster_laws.proofs.era.eras.eras_go_on.Goals as goal

pub returns : goal.returns
returns c = eras_go_on_law
