use Rattle.install_laws.proofs.Planned.{partition_is_planned_law}
use Rattle.install_laws.proofs.laws.partition_is_planned.Goals as goal

pub returns : goal.returns
returns c = partition_is_planned_law
