use Rattle.cluster_laws.proofs.Steps.{events_can_come_law}
use Rattle.cluster_laws.proofs.laws.events_can_come.Goals as goal

pub returns : goal.returns
returns c = events_can_come_law
