-- The memory for the images of the grants that a step sends.
use Rattle.std.specs.Prelude.{◌≡◌, ℕ, ◌≤◌, List, length, Vec, vec_capacity}
use Rattle.std.specs.Global.{Global}
use Rattle.std.specs.List.{All}

-- the bytes of a page, and for how many images there is memory
pub record StockView : Type 0 where
  pub size : ℕ
  pub count : ℕ

-- the lists are empty, and each has room for a page
pub record AreReady (size : ℕ) (lists : List (Vec ℕ Global)) : Type 0 where
  pub empty : All (λ v. length v.items ≡ 0) lists
  pub wide : All (λ v. size ≤ vec_capacity v) lists
