use Rattle.authority.proofs.Planned.{requests_law}
use Rattle.authority.proofs.laws.requests_are_planned.Goals as goal

pub returns : goal.returns
returns c = requests_law
