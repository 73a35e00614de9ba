use Rattle.cluster_laws.proofs.EraParts.Epochs.{epochs_have_views_law}
use Rattle.cluster_laws.proofs.era.eras.epochs_have_views.Goals as goal

pub returns : goal.returns
returns c = epochs_have_views_law
