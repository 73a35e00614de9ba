use Rattle.std.proofs.Common.{subst}
use Rattle.lock_table.specs.Tables.{FitsConfig}
use Rattle.lock_table.proofs.Places.{entry_at_of}
use Rattle.lock_table.proofs.table.Table.find.Goals as goal

pub returns-clause-entry : goal.returns-clause-entry
returns-clause-entry c = entry_at_of c.args.self.now c.args.page (subst FitsConfig c.self.view_is c.self.invariant) c.requires
