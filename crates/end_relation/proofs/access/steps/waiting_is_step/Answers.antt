use Rattle.end_relation.proofs.AccessParts.Stepped.{waiting_is_step_law}
use Rattle.end_relation.proofs.access.steps.waiting_is_step.Goals as goal

pub returns : goal.returns
returns c = waiting_is_step_law
