use Rattle.authority.proofs.Planned.{settling_law}
use Rattle.authority.proofs.laws.settling_is_planned.Goals as goal

pub returns : goal.returns
returns c = settling_law
