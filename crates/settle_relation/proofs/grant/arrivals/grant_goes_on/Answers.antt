use Rattle.settle_relation.proofs.GrantParts.Arriving.{grant_goes_on_law}
use Rattle.settle_relation.proofs.grant.arrivals.grant_goes_on.Goals as goal

pub returns : goal.returns
returns c = grant_goes_on_law
