use Rattle.std.proofs.Common.{rules, ◌^◌, ◌<◌, arith}
use Rattle.buffer_pool.specs.Entries.{is_free}
use Rattle.buffer_pool.proofs.Names.{count_within, table_now}
use Rattle.buffer_pool.proofs.table.Table.free.Goals as goal

pub overflow_cast-result : goal.overflow_cast-result
overflow_cast-result c =
    let bound : c.len.result < 2 ^ 32 = omega (arith, c.len.ensures, c.self.inside.free.ok.0, c.self.invariant.number, c.self.invariant.frames, count_within is_free c.self.inside.order.entries) in
    search rules

pub returns-clause-sound : goal.returns-clause-sound
returns-clause-sound c = table_now _ _ _ _ _ _ _ _ c.self.invariant c.self.view_is
