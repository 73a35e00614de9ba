use Rattle.authority.proofs.Planned.{returns_law}
use Rattle.authority.proofs.laws.returns_are_planned.Goals as goal

pub returns : goal.returns
returns c = returns_law
