-- Eras, lives and messages of two nodes, of which one is lost and comes back.
use Rattle.std.specs.Prelude.{ℕ, Bool, List, [], ◌∷◌, map, Option, Some, None}
use Rattle.pcl_base.specs.declared.event.Event.{Event}
use Rattle.node_rules.specs.NodeState.{NodeState}
use Rattle.cluster_rules.specs.Clusters.{Cluster, node_at}
use Rattle.cluster_rules.specs.ClusterRows.{two, drops, brings_back}
use Rattle.cluster_rules.specs.Run.{last}
use Rattle.cluster_laws.specs.Era.Eras.{era_at, owner_at, born_at, live_at, life_of}
use Rattle.cluster_laws.specs.Era.Counts.{counts_in}

-- node 1 is dropped in view 2 and comes back in view 3, where it owns its partition again
abbrev pub back : List Event → Cluster
back es = last two (drops (brings_back es))

-- what is so at the epochs 0 to 4
abbrev pub epochs : List ℕ
epochs = 0 ∷ 1 ∷ 2 ∷ 3 ∷ 4 ∷ []

-- the eras of a partition and its owners, and the births of a node and when it is live
abbrev pub eras : ℕ → List ℕ
eras q = map (era_at (back []) q) epochs

-- its owners
abbrev pub owners : ℕ → List ℕ
owners q = map (owner_at (back []) q) epochs

-- the births of a node
abbrev pub births : ℕ → List ℕ
births n = map (born_at (back []) n) epochs

-- when it is live
abbrev pub lives : ℕ → List Bool
lives n = map (live_at (back []) n) epochs

-- the life of a node that may be down
abbrev pub life_of_node : Option NodeState → Option ℕ
life_of_node None = None
life_of_node (Some s) = Some (life_of s)

-- the life of node 1 after some further events
abbrev pub life_after : List Event → Option ℕ
life_after es = life_of_node (node_at (back es) 1)

-- whether messages of the epochs 0 to 4 from the other node, of partition 1, count at a node
abbrev pub counting : ℕ → ℕ → Cluster → List Bool
counting from to c = map (counts_in (node_at c to) from 1) epochs
