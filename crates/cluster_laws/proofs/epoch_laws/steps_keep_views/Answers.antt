use Rattle.cluster_laws.proofs.Epochs.{steps_keep_views_law}
use Rattle.cluster_laws.proofs.epoch_laws.steps_keep_views.Goals as goal

pub returns : goal.returns
returns c = steps_keep_views_law
