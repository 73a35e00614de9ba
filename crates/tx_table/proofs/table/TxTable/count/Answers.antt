use Rattle.std.proofs.Common.{subst}
use Rattle.tx_table.specs.Links.{IsNumbered}
use Rattle.tx_table.proofs.Numbers.{rising_of}
use Rattle.tx_table.proofs.table.TxTable.count.Goals as goal

pub returns-clause-numbered : goal.returns-clause-numbered
returns-clause-numbered c = subst IsNumbered c.self.view_is (rising_of 0 c.self.inside.last c.self.inside.txs c.self.invariant.linked)
