use Rattle.std.proofs.Common.{is_some, sym, ap, subst, ◌∙◌}
use Rattle.buffer_pool.specs.Buffer.{IsBuffer}
use Rattle.buffer_pool.proofs.Totals.{buffer_from_sound}
use Rattle.buffer_pool.proofs.Pools.{slot_now}
use Rattle.buffer_pool.proofs.Calls.{slot_there}
use Rattle.buffer_pool.proofs.pool.BufferPool.has_slot.Goals as goal

pub returns-clause-answer : goal.returns-clause-answer
returns-clause-answer c = c.is_some.ensures ∙ slot_there c.self.inside.images.images c.slot.result ∙ sym (ap is_some (slot_now c.self.inside.images c.self.inside.table c.args.self.now c.args.page c.slot.result c.self.view_is c.slot.ensures.found))

pub returns-clause-sound : goal.returns-clause-sound
returns-clause-sound c = subst IsBuffer c.self.view_is (buffer_from_sound c.self.inside.images c.self.inside.table c.self.invariant)
