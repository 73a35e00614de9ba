use Rattle.settle_relation.proofs.GrantParts.Arriving.{grant_is_kept_law}
use Rattle.settle_relation.proofs.grant.arrivals.grant_is_kept.Goals as goal

pub returns : goal.returns
returns c = grant_is_kept_law
