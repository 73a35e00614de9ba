use Rattle.std.proofs.Common.{subst}
use Rattle.lock_table.specs.Tables.{FitsConfig}
use Rattle.lock_table.proofs.Places.{table_lent}
use Rattle.lock_table.proofs.table.Table.make.Goals as goal

pub returns-then-contains_key-clause-table : goal.returns-then-contains_key-clause-table
returns-then-contains_key-clause-table c = λ e. table_lent c.args.self.now c.args.page e (subst FitsConfig c.self.view_is c.self.invariant) c.requires

pub returns-clause-table : goal.returns-clause-table
returns-clause-table c = λ e. table_lent c.args.self.now c.args.page e (subst FitsConfig c.self.view_is c.self.invariant) c.requires
