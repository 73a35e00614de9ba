use Rattle.std.proofs.Common.{◌≡◌, ◌+◌, ◌<◌, ◌≤◌, ℕ, length, vec_capacity}
use Rattle.frame_pool.specs.Frames.{IsPool, times}
use Rattle.std.specs.List.{AllByRecursion}
use Rattle.buffer_pool.proofs.images.Images.take_all.Given as goal

abbrev pub invariant-loop-frame : goal.invariant-loop-frame
invariant-loop-frame l = record {
  sound : IsPool l.pool;
  once : (n : ℕ) → times n l.frames.items + times n l.pool.free ≤ 1;
  below : AllByRecursion (λ n. n < length l.pool.frames) l.frames.items;
  many : length l.frames.items + length l.pool.free ≡ length l.pool.frames;
  kept : length l.pool.frames ≡ length l.initial.pool.frames;
  size : l.pool.size ≡ l.initial.pool.size;
  room : length l.pool.frames ≤ vec_capacity l.frames;
}

abbrev pub decreases-loop-frame : goal.decreases-loop-frame
decreases-loop-frame l = length l.pool.free
