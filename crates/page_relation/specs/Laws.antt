-- The laws of the relation.
use Rattle.std.specs.Prelude.{ℕ, ◌<◌, replicate, List}
use Rattle.pcl_base.specs.Limits.{Sizes, InLimits}
use Rattle.node_rules.specs.NodeState.{partition}
use Rattle.cluster_rules.specs.Clusters.{opening}
use Rattle.page_protocol.specs.State.{Page}
use Rattle.page_protocol.specs.State as machine
use Rattle.page_relation.specs.Relation.{IsPageOf}
use Rattle.page_relation.specs.Together.{IsRelated}

-- a page that was never written
abbrev pub blank : Sizes → List ℕ
blank c = replicate c.size 0

-- the opening state of a page: its partition is owned by the node of that number since epoch 1
abbrev pub opening_page : Sizes → ℕ → Page
opening_page c p = machine.opening (blank c) 1 (partition c p)

-- the opening cluster is related to the opening state of each page
abbrev pub OpeningIsRelated : Type 0
OpeningIsRelated = (c : Sizes) (p : ℕ) → InLimits c → p < c.pages → IsPageOf (opening c) p (opening_page c p)

-- and all that is to hold of every cluster of a run holds of it
abbrev pub OpeningIsWhole : Type 0
OpeningIsWhole = (c : Sizes) → InLimits c → IsRelated (blank c) (opening c)
