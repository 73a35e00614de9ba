-- Runs: the clusters from the opening one on, each a step after the one before.
use Rattle.std.specs.Prelude.{List, [], ◌∷◌}
use Rattle.std.specs.List.{fold}
use Rattle.pcl_base.specs.Limits.{Sizes}
use Rattle.pcl_base.specs.declared.event.Event.{Event}
use Rattle.cluster_rules.specs.Clusters.{Cluster, opening}
use Rattle.cluster_rules.specs.ClusterStep.{step}

-- the clusters from c on, over some events
unfoldable pub run_from : Cluster → List Event → List Cluster
run_from c [] = c ∷ []
run_from c (e ∷ es) = c ∷ run_from (step c e) es

-- the run of a schedule
unfoldable pub run : Sizes → List Event → List Cluster
run c es = run_from (opening c) es

-- the last cluster of a run
abbrev pub last_from : Cluster → List Event → Cluster
last_from c es = fold step c es

-- the last cluster of a schedule's run
abbrev pub last : Sizes → List Event → Cluster
last c es = last_from (opening c) es
