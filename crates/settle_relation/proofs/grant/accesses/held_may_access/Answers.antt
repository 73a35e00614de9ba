use Rattle.settle_relation.proofs.GrantParts.Performing.{held_may_access_law}
use Rattle.settle_relation.proofs.grant.accesses.held_may_access.Goals as goal

pub returns : goal.returns
returns c = held_may_access_law
