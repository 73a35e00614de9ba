use Rattle.authority.proofs.Planned.{ends_law, changes_law}
use Rattle.authority.proofs.laws.ends_are_planned.Goals as goal

pub returns-clause-planned : goal.returns-clause-planned
returns-clause-planned c = ends_law

pub returns-clause-taken : goal.returns-clause-taken
returns-clause-taken c = changes_law
