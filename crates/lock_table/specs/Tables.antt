-- What contracts see of a table, and the lock table of the rules that it is.
use Rattle.std.specs.Prelude.{◌≡◌, ℕ, ◌+◌, ◌/◌, ◌%◌, ◌==◌, ◌&&◌, ◌<◌, Bool, true, List, [], ◌∷◌, ◌++◌, map, length, nat_eq, Option, Some, None, is_some, unwrap_or, slice_index_or, slice_set}
use Rattle.std.specs.List.{filter}
use Rattle.std.specs.Map.{lookup, set_value}
use Rattle.indexmap.specs.IndexMap.{insert_entry}
use Rattle.pcl_base.specs.Limits.{Sizes, InLimits}
use Rattle.node_rules.specs.Words.{pick}
use Rattle.node_rules.specs.LockRule.{LockEntry, idle}
use Rattle.node_rules.specs.LockTable.{LockTable, pages_of}

-- the configuration and the partition; whether it is served; a version for each place of the
-- partition; the entries that were made, by page; and who has reported
pub record TableView : Type 0 where
  pub config : Sizes
  pub partition : ℕ
  pub serving : Bool
  pub versions : List ℕ
  pub entries : List (ℕ × LockEntry)
  pub reported : List Bool

-- the entry that was made for a page, if there is one
abbrev pub found : TableView → ℕ → Option LockEntry
found t p = lookup (nat_eq p) t.entries

-- the version that is kept for a page without an entry
abbrev pub kept_version : TableView → ℕ → ℕ
kept_version t p = slice_index_or t.versions (p / t.config.nodes) 0

-- a page's entry: the one that was made, else one with empty lists at the version that is kept
abbrev pub entry_of : TableView → ℕ → LockEntry
entry_of t p = unwrap_or (found t p) (idle (kept_version t p))

-- the lock table of the rules
abbrev pub table_of : TableView → LockTable
table_of t =
    record {
      serving = t.serving;
      entries = map (λ p. record { page = p; entry = entry_of t p }) (pages_of t.config t.partition);
      reported = t.reported;
    }

-- a page of the table's partition
pub record IsPageOf (t : TableView) (p : ℕ) : Type 0 where
  pub below : p < t.config.pages
  pub own : p % t.config.nodes ≡ t.partition

-- an entry that was made is that of a page of the table's partition
abbrev pub HasOwnEntries : TableView → Type 0
HasOwnEntries t = (p : ℕ) → is_some (found t p) ≡ true → IsPageOf t p

-- the table's lists are those of its configuration, and its entries those of its partition
pub record FitsConfig (t : TableView) : Type 0 where
  pub limits : InLimits t.config
  pub partition : t.partition < t.config.nodes
  pub versions : length t.versions ≡ t.config.pages / t.config.nodes + 1
  pub reported : length t.reported ≡ t.config.nodes
  pub own : HasOwnEntries t

-- the pages of the table that have an entry, rising
abbrev pub pages_made : TableView → List ℕ
pages_made t = filter (λ p. is_some (found t p)) (pages_of t.config t.partition)

-- whether an entry has empty lists
abbrev pub is_idle : LockEntry → Bool
is_idle e = (length e.holders == 0 && length e.rights == 0) && length e.waiting == 0

-- the table with an entry made for a page that has none
abbrev pub with_made : TableView → ℕ → TableView
with_made t p = record t { entries = pick (is_some (found t p)) t.entries (insert_entry nat_eq t.entries p (idle (kept_version t p))) }

-- the table with another entry for a page that has one
abbrev pub with_entry : TableView → ℕ → LockEntry → TableView
with_entry t p e = record t { entries = set_value (nat_eq p) t.entries e }

-- a table keeps a version for a page, and all else but its entries
pub record HasKept (old new : TableView) (p v : ℕ) : Type 0 where
  pub config : new.config ≡ old.config
  pub partition : new.partition ≡ old.partition
  pub serving : new.serving ≡ old.serving
  pub reported : new.reported ≡ old.reported
  pub versions : new.versions ≡ slice_set old.versions (p / old.config.nodes) v

-- a later table is of the same configuration and partition
pub record SamePlace (old new : TableView) : Type 0 where
  pub config : new.config ≡ old.config
  pub partition : new.partition ≡ old.partition
