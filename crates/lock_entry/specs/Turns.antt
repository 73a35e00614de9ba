-- What one turn of settling decides, what it leaves, and whether settling goes on after it.
use Rattle.std.specs.Prelude.{Bool, true, false, List, [], ◌∷◌}
use Rattle.pcl_base.specs.declared.lock.Decision.{Decision}
use Rattle.node_rules.specs.LockRule.{LockEntry, Turn, Rest, Next}

-- the decisions of a turn
abbrev pub decided : Turn → List Decision
decided (Rest ds e) = ds
decided (Next d e) = d ∷ []

-- the entry after a turn
abbrev pub entry_after : Turn → LockEntry
entry_after (Rest ds e) = e
entry_after (Next d e) = e

-- whether settling goes on after a turn
abbrev pub goes_on : Turn → Bool
goes_on (Rest ds e) = false
goes_on (Next d e) = true
