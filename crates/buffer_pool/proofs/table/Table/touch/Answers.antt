use Rattle.buffer_pool.proofs.Tables.{kept_promoted, table_of_kept}
use Rattle.buffer_pool.proofs.table.Table.touch.Goals as goal

pub invariant_of-self : goal.invariant_of-self
invariant_of-self c = rw c.promote-there.ensures.entries (kept_promoted _ _ _ _ _ _ _ c.args.frame c.self.invariant)

pub returns-clause-sound : goal.returns-clause-sound
returns-clause-sound c = rw c.promote-there.ensures.entries (table_of_kept _ _ _ _ _ _ _ (kept_promoted _ _ _ _ _ _ _ c.args.frame c.self.invariant))
