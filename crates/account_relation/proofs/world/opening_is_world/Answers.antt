use Rattle.account_relation.proofs.Telling.{opening_is_world_law}
use Rattle.account_relation.proofs.world.opening_is_world.Goals as goal

pub returns : goal.returns
returns c = opening_is_world_law
