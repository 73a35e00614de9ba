-- A partition's lock table at its owner: whether it is served, an entry for each page, and who has
-- reported.
use Rattle.std.specs.Prelude.{ℕ, zero, suc, ◌+◌, ◌==◌, nat_lt, Bool, true, false, List, [], ◌∷◌, map, replicate, slice_set}
use Rattle.pcl_base.specs.Limits.{Sizes}
use Rattle.node_rules.specs.Words.{pick, flag_at}
use Rattle.node_rules.specs.LockRule.{LockEntry, idle}

-- a page and its entry; a page that nobody holds, reads or waits for has one with empty lists
pub record PageEntry : Type 0 where
  pub page : ℕ
  pub entry : LockEntry

-- the table of a partition; an entry for each of its pages, and a flag for each node
pub record LockTable : Type 0 where
  pub serving : Bool
  pub entries : List PageEntry
  pub reported : List Bool

-- the pages of a partition, rising: q, and each further one N after the one before, below P
unfoldable pub pages_from : ℕ → ℕ → ℕ → ℕ → List ℕ
pages_from zero step p end = []
pages_from (suc n) step p end = pick (nat_lt p end) (p ∷ pages_from n step (p + step) end) []

-- the pages of a partition
abbrev pub pages_of : Sizes → ℕ → List ℕ
pages_of c q = pages_from c.pages c.nodes q c.pages

-- a table in which nothing is locked and every version is 0
unfoldable pub open_table : Sizes → ℕ → Bool → LockTable
open_table c q serving =
    record {
      serving = serving;
      entries = map (λ p. record { page = p; entry = idle 0 }) (pages_of c q);
      reported = replicate c.nodes false;
    }

-- the entry of a page
unfoldable pub entry_in : List PageEntry → ℕ → LockEntry
entry_in [] p = idle 0
entry_in (x ∷ xs) p = pick (x.page == p) x.entry (entry_in xs p)

-- the entry of a page in a table
abbrev pub entry_at : LockTable → ℕ → LockEntry
entry_at t p = entry_in t.entries p

-- the entries with another one at a page
unfoldable pub entries_with : List PageEntry → ℕ → LockEntry → List PageEntry
entries_with [] p e = record { page = p; entry = e } ∷ []
entries_with (x ∷ xs) p e =
    pick (x.page == p) (record { page = p; entry = e } ∷ xs) (x ∷ entries_with xs p e)

-- a table with another entry at a page
abbrev pub put_entry : LockTable → ℕ → LockEntry → LockTable
put_entry t p e = record t { entries = entries_with t.entries p e }

-- a page gets a version
abbrev pub set_version : LockTable → ℕ → ℕ → LockTable
set_version t p v = put_entry t p (record (entry_at t p) { version = v })

-- a node has reported
abbrev pub mark : LockTable → ℕ → LockTable
mark t n = record t { reported = slice_set t.reported n true }

-- whether a node has reported
abbrev pub marked : LockTable → ℕ → Bool
marked t n = flag_at t.reported n

-- the table is served from now on
abbrev pub serve : LockTable → LockTable
serve t = record t { serving = true }
