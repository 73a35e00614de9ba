use Rattle.std.proofs.Common.{ℕ, length-append, length-take, length-drop, arith}
use Rattle.frame_pool.proofs.Views.{pool_lent}
use Rattle.frame_pool.proofs.pool.Pool.write.Goals as goal

pub returns-clause-sound : goal.returns-clause-sound
returns-clause-sound c = pool_lent _ _ _ c.bytes_mut-frame.ensures.sound
    (omega (arith, length-append {A = ℕ}, c.copy_from_slice.ensures.len, length-take {A = ℕ}, length-drop {A = ℕ}, c.bytes_mut-frame.ensures.len, c.requires.inside))
