-- The images of a buffer: the bytes in each frame, by number.
use Rattle.std.specs.Prelude.{◌≡◌, ℕ, ◌≤◌, ◌<◌, List, length, map}
use Rattle.std.specs.List.{All, AllByRecursion}
use Rattle.frame_pool.specs.Frames.{PoolView, IsPool, frame_of, times}

pub record ImagesView : Type 0 where
  -- the length of an image
  pub size : ℕ
  pub images : List (List ℕ)

-- the bytes of the frames with these numbers
abbrev pub images_of : PoolView → List ℕ → ImagesView
images_of p ns = record { size = p.size; images = map (frame_of p) ns }

-- each image has the size of a frame
abbrev pub IsSized : ImagesView → Type 0
IsSized v = All (λ bytes. length bytes ≡ v.size) v.images

-- all frames of a pool are taken, and these are their numbers
pub record HasAll (p : PoolView) (ns : List ℕ) : Type 0 where
  pub sound : IsPool p
  pub none_free : length p.free ≡ 0
  pub once : (n : ℕ) → times n ns ≤ 1
  pub below : AllByRecursion (λ n. n < length p.frames) ns
  pub many : length ns ≡ length p.frames
