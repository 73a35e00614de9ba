use Rattle.end_relation.proofs.AccessParts.Stepped.{reading_under_is_step_law}
use Rattle.end_relation.proofs.access.steps.reading_under_is_step.Goals as goal

pub returns : goal.returns
returns c = reading_under_is_step_law
