-- The one copy of the database, within its limits.
use Rattle.std.specs.Prelude.{◌≡◌, ℕ, ◌<◌, length}
use Rattle.pcl_base.specs.Limits.{Sizes, InLimits}
use Rattle.text_rules.specs.StoredPage.{PageAt}
use Rattle.run_rules.specs.Base.{Base, version_at, bytes_at}

-- a base of so many pages, each of its size and below the versions' end
pub record IsBase (c : Sizes) (base : Base) : Type 0 where
  pub limits : InLimits c
  pub count : length base ≡ c.pages
  pub sizes : (p : ℕ) → p < c.pages → length (bytes_at base p) ≡ c.size
  pub below : (p : ℕ) → version_at base p < 18446744073709551616

-- a page of the base as it is stored
abbrev pub at : Base → ℕ → PageAt
at base p = record { version = version_at base p; bytes = bytes_at base p }
