-- How many accesses wait in lock tables, and how many rights there are.
use Rattle.std.specs.Prelude.{◌≡◌, ℕ, ◌+◌, ◌^◌, ◌≤◌, ⊤, List, length, Option, Some, None}
use Rattle.std.specs.List.{AllByRecursion}
use Rattle.pcl_base.specs.Limits.{InLimits}
use Rattle.node_rules.specs.LockRule.{LockEntry}
use Rattle.node_rules.specs.LockTable.{LockTable, PageEntry}
use Rattle.step_laws.specs.Most.{sum_of}
use Rattle.node_parts.specs.Tables.{TablesView, FitPlaces, lock_tables}

-- the waiting accesses and the rights in an entry
abbrev pub lists_of : LockEntry → ℕ
lists_of e = length e.waiting + length e.rights

-- the same of a table, where there is one
abbrev pub lists_in : Option LockTable → ℕ
lists_in None = 0
lists_in (Some t) = sum_of (λ x. lists_of x.entry) t.entries

-- an entry's lists are as short as lists in memory are
abbrev pub IsShort : PageEntry → Type 0
IsShort x = lists_of x.entry ≤ 2 ^ 65

-- the same of each entry of a table, where there is one
abbrev pub AreShort : Option LockTable → Type 0
AreShort None = ⊤
AreShort (Some t) = AllByRecursion IsShort t.entries

-- a number is what tables with short lists have
pub record IsListed (count : ℕ) (tables : List (Option LockTable)) : Type 0 where
  pub sum : count ≡ sum_of lists_in tables
  pub short : AllByRecursion AreShort tables

-- the configuration is within its limits, the places are as they have to be, and a number is what
-- their tables have
pub record AreCounted (count : ℕ) (v : TablesView) : Type 0 where
  pub limits : InLimits v.config
  pub fits : FitPlaces v
  pub listed : IsListed count (lock_tables v.places)
