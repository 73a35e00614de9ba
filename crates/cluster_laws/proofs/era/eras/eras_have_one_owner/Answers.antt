use Rattle.cluster_laws.proofs.EraParts.Ages.{eras_have_one_owner_law}
use Rattle.cluster_laws.proofs.era.eras.eras_have_one_owner.Goals as goal

pub returns : goal.returns
returns c = eras_have_one_owner_law
