-- Runs for computed rows.
use Rattle.std.specs.Prelude.{List, [], ◌∷◌}
use Rattle.node_rules.specs.NodeState.{Run}

-- places 1 and 2, and place 5
abbrev pub two_runs : List Run
two_runs = record { from = 1; to = 3 } ∷ record { from = 5; to = 6 } ∷ []
