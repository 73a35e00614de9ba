use Rattle.settle_relation.proofs.GrantParts.Going.{links_go_on_law}
use Rattle.settle_relation.proofs.grant.accesses.links_go_on.Goals as goal

pub returns : goal.returns
returns c = links_go_on_law
