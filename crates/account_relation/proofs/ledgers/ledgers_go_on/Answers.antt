use Rattle.account_relation.proofs.Leaving.{ledgers_go_on_law}
use Rattle.account_relation.proofs.ledgers.ledgers_go_on.Goals as goal

pub returns : goal.returns
returns c = ledgers_go_on_law
