use Rattle.cluster_laws.proofs.EraParts.Ages.{eras_never_fall_law}
use Rattle.cluster_laws.proofs.era.eras.eras_never_fall.Goals as goal

pub returns : goal.returns
returns c = eras_never_fall_law
