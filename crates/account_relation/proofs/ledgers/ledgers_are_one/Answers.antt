use Rattle.account_relation.proofs.Leaving.{ledgers_are_one_law}
use Rattle.account_relation.proofs.ledgers.ledgers_are_one.Goals as goal

pub returns : goal.returns
returns c = ledgers_are_one_law
