use Rattle.cluster_laws.proofs.EraParts.Ages.{births_never_fall_law}
use Rattle.cluster_laws.proofs.era.eras.births_never_fall.Goals as goal

pub returns : goal.returns
returns c = births_never_fall_law
