use Rattle.std.proofs.Common.{◌≤◌, length, ap, arith}
use Rattle.std.proofs.lemmas.List.FromFn.{length-range_with_len}
use Rattle.frame_pool.proofs.Views.{pool_from_sound, sound_opened, seen_opened}
use Rattle.std.specs.Vec.{vec_capacity}
use Rattle.frame_pool.proofs.pool.Pool.open.Goals as goal

pub invariant_of-result : goal.invariant_of-result
invariant_of-result c =
    let room : c.args.frames ≤ vec_capacity c.in-Ok.free = omega (arith, ap length c.in-Ok.ensures.numbers, length-range_with_len 0 c.args.frames, c.in-Ok.free.ok) in
    rw (c.in-Ok.ensures.zero, c.in-Ok.ensures.numbers) (sound_opened c.args.frames c.args.size (vec_capacity c.in-Ok.free) c.requires.frames.0 c.requires.frames.1 c.requires.size.0 c.requires.size.1 room)

pub returns-in-Ok-clause-opened : goal.returns-in-Ok-clause-opened
returns-in-Ok-clause-opened c = rw (c.in-Ok.ensures.zero, c.in-Ok.ensures.numbers) (seen_opened c.args.frames c.args.size)

pub returns-in-Ok-clause-sound : goal.returns-in-Ok-clause-sound
returns-in-Ok-clause-sound c =
    rw (c.in-Ok.ensures.zero, c.in-Ok.ensures.numbers) (pool_from_sound (sound_opened c.args.frames c.args.size c.args.frames c.requires.frames.0 c.requires.frames.1 c.requires.size.0 c.requires.size.1 (omega arith)))
