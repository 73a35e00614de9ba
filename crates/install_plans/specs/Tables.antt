-- The entries of a table that are in use.
use Rattle.std.specs.Prelude.{◌≡◌, ℕ, ◌==◌, not, Bool, false, length, Option, Some, None}
use Rattle.node_rules.specs.LockRule.{LockEntry}
use Rattle.lock_table.specs.Tables.{TableView, found, is_idle}

-- whether an entry was made and has empty lists
abbrev pub is_unused : Option LockEntry → Bool
is_unused None = false
is_unused (Some e) = is_idle e

-- whether an entry was made and someone waits in it
abbrev pub is_wanted : Option LockEntry → Bool
is_wanted None = false
is_wanted (Some e) = not (length e.waiting == 0)

-- no entry that was made has empty lists
abbrev pub IsTidy : TableView → Type 0
IsTidy t = (p : ℕ) → is_unused (found t p) ≡ false
