use Rattle.std.proofs.Common.{sym, subst, ◌∙◌}
use Rattle.buffer_pool.specs.Buffer.{IsBuffer}
use Rattle.buffer_pool.proofs.Totals.{buffer_from_sound}
use Rattle.buffer_pool.proofs.Pools.{some_free}
use Rattle.buffer_pool.proofs.pool.BufferPool.free.Goals as goal

pub returns-clause-value : goal.returns-clause-value
returns-clause-value c = c.free.ensures.value ∙ sym (some_free c.self.inside.images c.self.inside.table c.args.self.now c.self.view_is)

pub returns-clause-sound : goal.returns-clause-sound
returns-clause-sound c = subst IsBuffer c.self.view_is (buffer_from_sound c.self.inside.images c.self.inside.table c.self.invariant)
