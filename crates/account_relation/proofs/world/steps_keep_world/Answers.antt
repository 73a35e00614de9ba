use Rattle.account_relation.proofs.Whole.{steps_keep_world_law}
use Rattle.account_relation.proofs.world.steps_keep_world.Goals as goal

pub returns : goal.returns
returns c = steps_keep_world_law
