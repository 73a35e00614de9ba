use Rattle.partition_steps.proofs.Staying.{plans_are_same_law, plans_stay_law, stays_twice_law}
use Rattle.partition_steps.proofs.laws.plans_stay.Goals as goal

pub returns-clause-stay : goal.returns-clause-stay
returns-clause-stay c = plans_stay_law

pub returns-clause-same : goal.returns-clause-same
returns-clause-same c = plans_are_same_law

pub returns-clause-twice : goal.returns-clause-twice
returns-clause-twice c = stays_twice_law
