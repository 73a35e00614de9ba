use Rattle.cluster_laws.proofs.EraParts.Ages.{owners_are_live_law}
use Rattle.cluster_laws.proofs.era.eras.owners_are_live.Goals as goal

pub returns : goal.returns
returns c = owners_are_live_law
