-- What a pool of frames is: the bytes of each frame by its number, and the numbers of the free frames.
use Rattle.std.specs.Prelude.{◌≡◌, ℕ, ◌+◌, ◌<◌, ◌≤◌, cond, eqb, List, [], ◌∷◌, ◌++◌, length, take, drop, replicate, slice_set, slice_index_or}
use Rattle.std.specs.List.{range_with_len}

pub record PoolView : Type 0 where
  -- the length of a frame
  pub size : ℕ
  -- the bytes of each frame, by its number
  pub frames : List (List ℕ)
  -- the numbers of the free frames; the next one that is taken is the last
  pub free : List ℕ

-- how often n is among the numbers
unfoldable pub times : ℕ → List ℕ → ℕ
times n [] = 0
times n (m ∷ ms) = cond (eqb n m) 1 0 + times n ms

-- the bytes of frame n
abbrev pub frame_of : PoolView → ℕ → List ℕ
frame_of p n = slice_index_or p.frames n []

-- frame n is in someone's hands: it is one of the pool's, and not free
abbrev pub IsTaken : PoolView → ℕ → Type 0
IsTaken p n = (n < length p.frames) × (times n p.free ≡ 0)

-- the pool with these bytes in frame n, and all else as it was
abbrev pub with_frame : PoolView → ℕ → List ℕ → PoolView
with_frame p n bytes = record p { frames = slice_set p.frames n bytes }

-- the bytes with a piece written over them from a place on
abbrev pub overwritten : List ℕ → ℕ → List ℕ → List ℕ
overwritten bytes place piece = take place bytes ++ piece ++ drop (place + length piece) bytes

-- a new pool: each frame is free and zero
abbrev pub opened : ℕ → ℕ → PoolView
opened count size = record { size = size; frames = replicate count (replicate size 0); free = range_with_len 0 count }

-- what holds of every pool: frames of one size, and each free number is one of the pool's and free once
pub record IsPool (p : PoolView) : Type 0 where
  pub sized : (n : ℕ) → n < length p.frames → length (frame_of p n) ≡ p.size
  pub once : (n : ℕ) → times n p.free ≤ 1
  pub below : (n : ℕ) → length p.frames ≤ n → times n p.free ≡ 0
  pub count_within : (1 ≤ length p.frames) × (length p.frames ≤ 4096)
  pub size_within : (1 ≤ p.size) × (p.size ≤ 4096)
