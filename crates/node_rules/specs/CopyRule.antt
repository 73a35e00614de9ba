-- The copy rule: what a grant to another node says of the page's copy.
use Rattle.std.specs.Prelude.{ℕ, ◌==◌, Bool, false, Option, Some, None}
use Rattle.pcl_base.specs.declared.trace.CopyKind.{CopyKind}
use Rattle.pcl_base.specs.declared.trace.CopyKind.TheVariants.{Current, Image, OnDisk}
use Rattle.node_rules.specs.Words.{pick}

-- whether a version is there and is v
abbrev pub is_version : Option ℕ → ℕ → Bool
is_version None v = false
is_version (Some w) v = w == v

-- the asker's own copy where it has the entry's version, else the owner's where that has it, else
-- the disk's
unfoldable pub copy_for : Option ℕ → ℕ → Option ℕ → CopyKind
copy_for have version buffered =
    pick (is_version have version) Current (pick (is_version buffered version) Image OnDisk)
