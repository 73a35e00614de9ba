use Rattle.end_relation.proofs.AccessParts.Stepped.{writing_is_step_law}
use Rattle.end_relation.proofs.access.steps.writing_is_step.Goals as goal

pub returns : goal.returns
returns c = writing_is_step_law
