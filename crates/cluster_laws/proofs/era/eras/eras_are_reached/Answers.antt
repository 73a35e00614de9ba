use Rattle.cluster_laws.proofs.EraParts.Ages.{eras_are_reached_law}
use Rattle.cluster_laws.proofs.era.eras.eras_are_reached.Goals as goal

pub returns : goal.returns
returns c = eras_are_reached_law
