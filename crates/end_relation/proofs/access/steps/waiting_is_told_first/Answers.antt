use Rattle.end_relation.proofs.AccessParts.Stepped.{waiting_is_told_first_law}
use Rattle.end_relation.proofs.access.steps.waiting_is_told_first.Goals as goal

pub returns : goal.returns
returns c = waiting_is_told_first_law
