use Rattle.std.proofs.Common.{length, sym, ap, ◌∙◌}
use Rattle.buffer_pool.proofs.Freed.{fresh_length}
use Rattle.buffer_pool.proofs.Totals.{buffer_from_sound}
use Rattle.buffer_pool.proofs.Calls.{opened_pool}
use Rattle.buffer_pool.proofs.pool.BufferPool.open.Goals as goal

pub invariant_of-result : goal.invariant_of-result
invariant_of-result c = record { table = c.in_ok-table.ensures.sound; many = c.in_ok-images.ensures.many ∙ sym (ap length c.in_ok-table.ensures.opened ∙ fresh_length c.args.frames); sized = c.in_ok-images.ensures.sized }

pub returns-clause-opened : goal.returns-clause-opened
returns-clause-opened c = opened_pool c.in_ok-images.images c.in_ok-table.table c.args.frames c.args.size c.in_ok-table.ensures.opened c.in_ok-images.ensures.size

pub returns-clause-sound : goal.returns-clause-sound
returns-clause-sound c = buffer_from_sound c.in_ok-images.images c.in_ok-table.table (invariant_of-result c)
