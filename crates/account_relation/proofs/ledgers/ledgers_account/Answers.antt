use Rattle.account_relation.proofs.Leaving.{ledgers_account_law}
use Rattle.account_relation.proofs.ledgers.ledgers_account.Goals as goal

pub returns : goal.returns
returns c = ledgers_account_law
