-- The lock tables of a node, a place for each partition, and what holds of them.
use Rattle.std.specs.Prelude.{◌≡◌, ℕ, ◌%◌, Bool, true, false, List, map, length, Option, Some, None, IfSome, slice_index_or, slice_set}
use Rattle.std.specs.Option.{option_map}
use Rattle.pcl_base.specs.Limits.{Sizes}
use Rattle.node_rules.specs.LockRule.{LockEntry}
use Rattle.node_rules.specs.LockTable.{LockTable, put_entry}
use Rattle.lock_table.specs.Tables.{TableView, found, table_of, is_idle}
use Rattle.home.specs.Ends.{listed}

-- the configuration, and what stands in the place of each partition
pub record TablesView : Type 0 where
  pub config : Sizes
  pub places : List (Option TableView)

-- the tables of the rules
abbrev pub lock_tables : List (Option TableView) → List (Option LockTable)
lock_tables places = map (option_map table_of) places

-- what stands in the place of a partition
abbrev pub place_at : List (Option TableView) → ℕ → Option TableView
place_at places q = slice_index_or places q None

-- the table of a page's partition
abbrev pub table_for : TablesView → ℕ → Option TableView
table_for v p = place_at v.places (p % v.config.nodes)

-- the entry that was made for a page in a table
abbrev pub found_in : Option TableView → ℕ → Option LockEntry
found_in None p = None
found_in (Some t) p = found t p

-- the entry that was made for a page
abbrev pub made_at : TablesView → ℕ → Option LockEntry
made_at v p = found_in (table_for v p) p

-- a table is that of a configuration's partition
pub record IsTableAt (c : Sizes) (q : ℕ) (t : TableView) : Type 0 where
  pub config : t.config ≡ c
  pub partition : t.partition ≡ q

-- there is a place for each partition, and a table stands in the place of its partition
pub record FitPlaces (v : TablesView) : Type 0 where
  pub nodes : length v.places ≡ v.config.nodes
  pub each : (q : ℕ) → IfSome (place_at v.places q) (IsTableAt v.config q)

-- whether an entry was made and has empty lists
abbrev pub is_unused : Option LockEntry → Bool
is_unused None = false
is_unused (Some e) = is_idle e

-- no entry of the table of a partition has empty lists, but those of the partition's among these pages
abbrev pub IsTidyBut : List ℕ → Sizes → ℕ → Option TableView → Type 0
IsTidyBut pages c q table =
    (p : ℕ) → is_unused (found_in table p) ≡ true → (listed pages p ≡ true) × (p % c.nodes ≡ q)

-- the same of all tables
abbrev pub AreTidyBut : List ℕ → TablesView → Type 0
AreTidyBut pages v = (q : ℕ) → IsTidyBut pages v.config q (place_at v.places q)

-- the tables of the rules with another entry for a page, where a table stands in the place
abbrev pub with_entry_at : List (Option LockTable) → ℕ → ℕ → LockEntry → List (Option LockTable)
with_entry_at tables q p e =
    slice_set tables q (option_map (λ t. put_entry t p e) (slice_index_or tables q None))
