use Rattle.cluster_laws.proofs.EraParts.Lives.{members_know_eras_law}
use Rattle.cluster_laws.proofs.era.eras.members_know_eras.Goals as goal

pub returns : goal.returns
returns c = members_know_eras_law
