use Rattle.std.proofs.Common.{subst}
use Rattle.tx_table.specs.Links.{IsNumbered}
use Rattle.tx_table.proofs.Numbers.{rising_of}
use Rattle.tx_table.proofs.table.TxTable.is_own.Goals as goal

pub returns-then-tx-self-clause-numbered : goal.returns-then-tx-self-clause-numbered
returns-then-tx-self-clause-numbered c = subst IsNumbered c.self.view_is (rising_of 0 c.self.inside.last c.self.inside.txs c.self.invariant.linked)

pub returns-else-tx-self-clause-numbered : goal.returns-else-tx-self-clause-numbered
returns-else-tx-self-clause-numbered c = subst IsNumbered c.self.view_is (rising_of 0 c.self.inside.last c.self.inside.txs c.self.invariant.linked)
