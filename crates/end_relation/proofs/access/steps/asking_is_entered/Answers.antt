use Rattle.end_relation.proofs.AccessParts.Stepped.{asking_is_entered_law}
use Rattle.end_relation.proofs.access.steps.asking_is_entered.Goals as goal

pub returns : goal.returns
returns c = asking_is_entered_law
