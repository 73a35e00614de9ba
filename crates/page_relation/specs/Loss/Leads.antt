-- What becomes of the state of a page through a step that may lose a node.
use Rattle.std.specs.Prelude.{ℕ}
use Rattle.cluster_rules.specs.Clusters.{Cluster}
use Rattle.page_protocol.specs.State.{Page}
use Rattle.page_protocol.specs.Steps.{Run}
use Rattle.page_relation.specs.Relation.{IsPageOf}

-- the machine of one page goes from a state to one that is related to this cluster
pub record LeadsTo (a : Page) (d : Cluster) (p : ℕ) : Type 0 where
  pub page : Page
  pub run : Run a page
  pub related : IsPageOf d p page
