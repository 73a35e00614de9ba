use Rattle.settle_relation.proofs.GrantParts.Elsewhere.{performs_elsewhere_law}
use Rattle.settle_relation.proofs.grant.accesses.performs_elsewhere.Goals as goal

pub returns : goal.returns
returns c = performs_elsewhere_law
