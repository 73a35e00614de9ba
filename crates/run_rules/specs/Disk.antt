-- What is on disk: the stored pages, and the log of each node.
use Rattle.std.specs.Prelude.{ℕ, ◌+◌, List, [], replicate, slice_index_or}
use Rattle.pcl_base.specs.Limits.{Sizes}

-- the bytes of each stored page, and of each log
pub record Disk : Type 0 where
  pub pages : List (List ℕ)
  pub logs : List (List ℕ)

-- fresh storage: zero bytes and empty logs
abbrev pub fresh_disk : Sizes → Disk
fresh_disk c =
    record { pages = replicate c.pages (replicate (c.size + 16) 0); logs = replicate c.nodes [] }

-- the bytes of a stored page, and of the log of a node
abbrev pub raw_page : List (List ℕ) → ℕ → List ℕ
raw_page pages p = slice_index_or pages p []

-- the bytes of the log of a node
abbrev pub log_at : Disk → ℕ → List ℕ
log_at d n = slice_index_or d.logs n []
