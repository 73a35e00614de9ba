use Rattle.buffer_pool.proofs.Names.{slot_name_new}
use Rattle.buffer_pool.proofs.table.Table.add_slot.Goals as goal

pub bring-requires-clause-none : goal.bring-requires-clause-none
bring-requires-clause-none c = slot_name_new c.args.page c.args.self.now c.requires.none
