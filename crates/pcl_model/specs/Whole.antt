-- A base between scripts.
use Rattle.std.specs.Prelude.{◌≡◌, ℕ, List, length, replicate}
use Rattle.pcl_base.specs.Limits.{Sizes}
use Rattle.pcl_model.specs.declared.cell.Cell.{Cell}
use Rattle.run_rules.specs.Base.{Sized}
use Rattle.pcl_model.specs.Cells.{kept, IsEven, IsIdle}

-- the base that some cells hold
abbrev pub sized_of : Sizes → List ℕ → List Cell → Sized
sized_of c zeros cells = record { sizes = c; pages = kept zeros cells }

-- there are as many pages of as many bytes as the configuration says, and no script is being run
pub record IsWhole (c : Sizes) (zeros : List ℕ) (cells : List Cell) : Type 0 where
  pub zeros_are : zeros ≡ replicate c.size 0
  pub pages : length cells ≡ c.pages
  pub even : IsEven zeros cells
  pub idle : IsIdle cells
