-- What a related cluster has of what is promised.
use Rattle.std.specs.Prelude.{ℕ, List}
use Rattle.pcl_base.specs.declared.event.Event.{Event}
use Rattle.run_rules.specs.Durable.{IsDurable}
use Rattle.run_rules.specs.Fresh.{IsFresh}
use Rattle.run_rules.specs.Serial.{IsSerial}
use Rattle.cluster_rules.specs.Clusters.{Cluster}
use Rattle.cluster_rules.specs.ClusterStep.{step}
use Rattle.cluster_laws.specs.Sound.{IsCluster}
use Rattle.page_relation.specs.Together.{IsRelated}

-- Its commits are serial.
abbrev pub RelatedIsSerial : Type 0
RelatedIsSerial = (blank : List ℕ) (c : Cluster) → IsRelated blank c → IsSerial c.config c.trace

-- Its storage is durable.
abbrev pub RelatedIsDurable : Type 0
RelatedIsDurable = (blank : List ℕ) (c : Cluster) → IsRelated blank c → IsDurable c.config c.trace c.disk

-- A step that leaves a related cluster keeps its trace fresh.
abbrev pub RelatedStaysFresh : Type 0
RelatedStaysFresh =
    (blank : List ℕ) (c : Cluster) (e : Event) → IsCluster c → IsFresh c.config c.trace → IsRelated blank (step c e)
    → IsFresh (step c e).config (step c e).trace
