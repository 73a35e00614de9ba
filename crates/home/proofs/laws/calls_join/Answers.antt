use Rattle.home.proofs.Making.{made_both, made_first}
use Rattle.home.proofs.laws.calls_join.Goals as goal

pub returns-clause-made : goal.returns-clause-made
returns-clause-made c = made_both

pub returns-clause-failed : goal.returns-clause-failed
returns-clause-failed c = made_first
