use Rattle.cluster_laws.proofs.EraParts.Epochs.{steps_keep_made_law}
use Rattle.cluster_laws.proofs.era.eras.steps_keep_made.Goals as goal

pub returns : goal.returns
returns c = steps_keep_made_law
