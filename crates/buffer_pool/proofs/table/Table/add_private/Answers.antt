use Rattle.std.proofs.Common.{ap, ◌∙◌}
use Rattle.buffer_pool.specs.Entries.{first_row}
use Rattle.buffer_pool.specs.Kept.{named_here}
use Rattle.buffer_pool.proofs.Names.{private_name_new}
use Rattle.buffer_pool.proofs.table.Table.add_private.Goals as goal

pub bring-requires-clause-none : goal.bring-requires-clause-none
bring-requires-clause-none c = ap (λ n. first_row (named_here n) c.args.self.now) c.private.ensures ∙ private_name_new c.args.tx c.args.page c.args.self.now c.requires.none
