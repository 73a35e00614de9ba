-- Nodes that start at their numbers.
use Rattle.std.specs.Prelude.{ℕ, List, ◌∷◌, slice_set, Option}
use Rattle.node_rules.specs.NodeState.{NodeState}

-- each of some nodes takes the place of its number, one after the other
unfoldable pub with_started : List (Option NodeState) → List ℕ → List (Option NodeState) → List (Option NodeState)
with_started nodes (n ∷ ns) (s ∷ ss) = with_started (slice_set nodes n s) ns ss
with_started nodes _ _ = nodes
