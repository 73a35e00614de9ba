use Rattle.cluster_laws.proofs.EraParts.Ages.{owners_were_born_law}
use Rattle.cluster_laws.proofs.era.eras.owners_were_born.Goals as goal

pub returns : goal.returns
returns c = owners_were_born_law
