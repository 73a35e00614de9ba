use Rattle.cluster_laws.proofs.EraParts.Epochs.{last_view_is_there_law}
use Rattle.cluster_laws.proofs.era.eras.last_view_is_there.Goals as goal

pub returns : goal.returns
returns c = last_view_is_there_law
