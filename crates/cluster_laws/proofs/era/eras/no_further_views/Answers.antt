use Rattle.cluster_laws.proofs.EraParts.Epochs.{no_further_views_law}
use Rattle.cluster_laws.proofs.era.eras.no_further_views.Goals as goal

pub returns : goal.returns
returns c = no_further_views_law
