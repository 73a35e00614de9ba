use Rattle.cluster_laws.proofs.EraParts.Lives.{lives_go_on_law}
use Rattle.cluster_laws.proofs.era.eras.lives_go_on.Goals as goal

pub returns : goal.returns
returns c = lives_go_on_law
