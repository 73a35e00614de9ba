use Rattle.std.proofs.Common.{◌≡◌, ◌+◌, ◌<◌, ◌≤◌, ℕ, length, vec_len}
use Rattle.frame_pool.specs.Frames.{times}
use Rattle.std.specs.List.{AllByRecursion}
use Rattle.buffer_pool.proofs.images.Images.close.Given as goal

abbrev pub invariant-loop-frame : goal.invariant-loop-frame
invariant-loop-frame l = record {
  once : (n : ℕ) → times n l.frames.items + times n l.pool.free ≤ 1;
  below : AllByRecursion (λ n. n < length l.pool.frames) l.frames.items;
  many : length l.frames.items + length l.pool.free ≡ length l.pool.frames;
}

abbrev pub decreases-loop-frame : goal.decreases-loop-frame
decreases-loop-frame l = vec_len l.frames
