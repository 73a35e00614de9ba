use Rattle.std.proofs.Common.{rules, ◌^◌, ◌<◌, ◌≤◌, length, subst, arith}
use Rattle.frame_pool.specs.Frames.{PoolView}
use Rattle.frame_pool.proofs.Cut.{length-cut}
use Rattle.frame_pool.proofs.Views.{free_within, pool_now}
use Rattle.frame_pool.proofs.pool.Pool.free.Goals as goal

pub overflow_cast-result : goal.overflow_cast-result
overflow_cast-result c =
    let few : length c.self.inside.free.items ≤ 4096 = omega (arith, free_within c.self.invariant, c.self.invariant.count_within) in
    let bound : c.len.result < 2 ^ 32 = omega (arith, c.self.inside.free.ok.0, c.len.ensures) in
    search rules

pub returns-clause-sound : goal.returns-clause-sound
returns-clause-sound c = pool_now c.self.invariant c.self.view_is

pub returns-clause-within : goal.returns-clause-within
returns-clause-within c =
    subst (λ (p : PoolView). length p.free ≤ length p.frames) c.self.view_is
    (omega (arith, free_within c.self.invariant, length-cut c.self.inside.size c.self.inside.count c.self.inside.bytes.items))
