use Rattle.settle_relation.proofs.GrantParts.Accepting.{carry_goes_law}
use Rattle.settle_relation.proofs.grant.grants.carry_goes.Goals as goal

pub returns : goal.returns
returns c = carry_goes_law
