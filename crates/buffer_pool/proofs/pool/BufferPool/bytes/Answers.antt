use Rattle.std.proofs.Common.{sym, ◌∙◌}
use Rattle.buffer_pool.proofs.Rows.{slot_use}
use Rattle.buffer_pool.proofs.Pools.{below_images}
use Rattle.buffer_pool.proofs.Calls.{no_copy, slot_bytes}
use Rattle.buffer_pool.proofs.pool.BufferPool.bytes.Goals as goal

pub unreachable-requires : goal.unreachable-requires
unreachable-requires c = no_copy c.self.inside.images c.self.inside.table c.args.self.now c.args.page c.self.view_is c.in-None.ensures.found c.requires

pub bytes-requires : goal.bytes-requires
bytes-requires c = below_images c.self.inside.images c.self.inside.table c.in-Some.frame _ c.self.invariant (slot_use c.args.page c.in-Some.frame c.in-Some._slot c.self.inside.table c.slot.ensures.sound.distinct (sym c.in-Some.ensures.found)).0

pub returns-clause-value : goal.returns-clause-value
returns-clause-value c = c.bytes.ensures.value ∙ slot_bytes c.self.inside.images c.self.inside.table c.args.self.now c.args.page c.in-Some.frame c.in-Some._slot c.self.view_is c.in-Some.ensures.found c.requires
