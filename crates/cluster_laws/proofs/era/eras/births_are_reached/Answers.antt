use Rattle.cluster_laws.proofs.EraParts.Ages.{births_are_reached_law}
use Rattle.cluster_laws.proofs.era.eras.births_are_reached.Goals as goal

pub returns : goal.returns
returns c = births_are_reached_law
