-- Views of two nodes, for computed rows.
use Rattle.std.specs.Prelude.{true, false, [], ◌∷◌}
use Rattle.pcl_base.specs.Limits.{Sizes}
use Rattle.run_rules.specs.Views.{View}

-- two nodes and two pages of eight bytes
abbrev pub two : Sizes
two = record { nodes = 2; pages = 2; size = 8; frames = 2 }

-- node 1 is lost
abbrev pub lost : View
lost = record { epoch = 2; live = true ∷ false ∷ []; owners = 0 ∷ 0 ∷ []; since = 1 ∷ 2 ∷ []; born = 1 ∷ 1 ∷ [] }

-- node 1 is back and owns its partition again
abbrev pub back : View
back = record { epoch = 3; live = true ∷ true ∷ []; owners = 0 ∷ 1 ∷ []; since = 1 ∷ 3 ∷ []; born = 1 ∷ 3 ∷ [] }
