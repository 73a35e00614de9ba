use Rattle.cluster_laws.proofs.EraParts.Epochs.{later_epochs_law}
use Rattle.cluster_laws.proofs.era.eras.later_epochs.Goals as goal

pub returns : goal.returns
returns c = later_epochs_law
