use Rattle.node_laws.proofs.Steps.{sends_have_epoch_law}
use Rattle.node_laws.proofs.laws.sends_have_epoch.Goals as goal

pub returns : goal.returns
returns c = sends_have_epoch_law
