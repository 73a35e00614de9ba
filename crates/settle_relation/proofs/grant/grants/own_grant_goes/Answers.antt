use Rattle.settle_relation.proofs.GrantParts.Accepting.{own_grant_goes_law}
use Rattle.settle_relation.proofs.grant.grants.own_grant_goes.Goals as goal

pub returns : goal.returns
returns c = own_grant_goes_law
