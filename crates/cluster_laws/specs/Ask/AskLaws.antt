-- Through every step an access that waits is the last one that its transaction asked for.
use Rattle.pcl_base.specs.Limits.{Sizes}
use Rattle.pcl_base.specs.declared.event.Event.{Event}
use Rattle.cluster_rules.specs.Clusters.{Cluster, opening}
use Rattle.cluster_rules.specs.ClusterStep.{step}
use Rattle.cluster_laws.specs.Sound.{IsCluster}
use Rattle.cluster_laws.specs.Ask.Asked.{AllWaitAsAsked}

-- the opening cluster
abbrev pub OpeningWaitsAsAsked : Type 0
OpeningWaitsAsAsked = (c : Sizes) → AllWaitAsAsked (opening c)

-- a step on any event
abbrev pub StepsWaitAsAsked : Type 0
StepsWaitAsAsked = (c : Cluster) (e : Event) → IsCluster c → AllWaitAsAsked c → AllWaitAsAsked (step c e)
