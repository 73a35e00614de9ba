use Rattle.settle_relation.proofs.GrantParts.Going.{tables_go_on_law}
use Rattle.settle_relation.proofs.grant.accesses.tables_go_on.Goals as goal

pub returns : goal.returns
returns c = tables_go_on_law
