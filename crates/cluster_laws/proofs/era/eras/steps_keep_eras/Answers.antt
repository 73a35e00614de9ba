use Rattle.cluster_laws.proofs.EraParts.Ages.{steps_keep_eras_law}
use Rattle.cluster_laws.proofs.era.eras.steps_keep_eras.Goals as goal

pub returns : goal.returns
returns c = steps_keep_eras_law
