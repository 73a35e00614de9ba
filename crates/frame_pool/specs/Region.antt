-- One region of bytes, cut into frames of one size.
use Rattle.std.specs.Prelude.{◌≡◌, ℕ, zero, suc, ◌*◌, ◌≤◌, cond, eqb, List, [], ◌∷◌, ◌++◌, length, take, drop}
use Rattle.std.specs.List.{concat}
use Rattle.frame_pool.specs.Frames.{PoolView, with_frame, times}

-- the first `count` pieces of `size` bytes
unfoldable pub cut : ℕ → ℕ → List ℕ → List (List ℕ)
cut size zero bytes = []
cut size (suc count) bytes = take size bytes ∷ cut size count (drop size bytes)

-- what holds of a pool's fields: the frames fill the region, each free number is one of the pool's and free once,
-- and there is room for all numbers
pub record IsSound (count size : ℕ) (bytes free : List ℕ) (room : ℕ) : Type 0 where
  pub filled : length bytes ≡ count * size
  pub count_within : (1 ≤ count) × (count ≤ 4096)
  pub size_within : (1 ≤ size) × (size ≤ 4096)
  pub once : (n : ℕ) → times n free ≤ 1
  pub below : (n : ℕ) → count ≤ n → times n free ≡ 0
  pub room_for_all : count ≤ room

-- the region with w written from place i on, at its old length
abbrev pub refilled_from : List ℕ → ℕ → List ℕ → List ℕ
refilled_from old i w =
    let all : List ℕ = take i old ++ (w ++ drop (length w) (drop i old)) in take (length old) (all ++ drop (length all) old)

-- the pool after a loan of frame n that ends with the bytes w. A loan keeps its length, so w is as long as
-- the frame, and it becomes that frame's bytes and no other's; the second case says what another w would come to.
abbrev pub lent : PoolView → ℕ → List ℕ → PoolView
lent p n w =
    cond (eqb (length w) p.size)
    (with_frame p n w)
    (record p { frames = cut p.size (length p.frames) (refilled_from (concat p.frames) (n * p.size) w) })
