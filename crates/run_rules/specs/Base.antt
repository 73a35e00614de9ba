-- The one copy of the database: a list of pages, each with its bytes and its version.
use Rattle.std.specs.Prelude.{ℕ, ◌+◌, List, [], ◌++◌, length, take, drop, slice_index_or, slice_set, replicate}
use Rattle.pcl_base.specs.Limits.{Sizes}

-- a page: the number of committed transactions that wrote it, and its bytes
pub record BasePage : Type 0 where
  pub version : ℕ
  pub bytes : List ℕ

-- a base: its pages in order
abbrev pub Base : Type 0
Base = List BasePage

-- a base with the numbers of its configuration
pub record Sized : Type 0 where
  pub sizes : Sizes
  pub pages : Base

-- the first base: zero bytes and version 0 everywhere
abbrev pub first_base : Sizes → Base
first_base c = replicate c.pages (record { version = 0; bytes = replicate c.size 0 })

-- page p of a base, and an empty one past its end
abbrev pub page_at : Base → ℕ → BasePage
page_at base p = slice_index_or base p (record { version = 0; bytes = [] })

-- the version and the bytes of page p
abbrev pub version_at : Base → ℕ → ℕ
version_at base p = (page_at base p).version

abbrev pub bytes_at : Base → ℕ → List ℕ
bytes_at base p = (page_at base p).bytes

-- the bytes of a page once some are put over it, from a place on
abbrev pub put_over : ℕ → List ℕ → List ℕ → List ℕ
put_over place bytes old = take place old ++ bytes ++ drop (place + length bytes) old

-- the base once some bytes are put into page p, whose version stays
abbrev pub put_into : Base → ℕ → ℕ → List ℕ → Base
put_into base p place bytes =
    slice_set base p (record { version = version_at base p; bytes = put_over place bytes (bytes_at base p) })
