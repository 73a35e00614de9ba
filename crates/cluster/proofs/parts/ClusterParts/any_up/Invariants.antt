use Rattle.std.proofs.Common.{◌≡◌, ◌-◌}
use Rattle.std.specs.List.{list_any}
use Rattle.run_rules.specs.Views.{count_from}
use Rattle.cluster_rules.specs.Clusters.{is_up}
use Rattle.cluster_rules.specs.ClusterStep.{all_nodes}
use Rattle.cluster_parts.specs.State.{cluster_of}
use Rattle.cluster.proofs.parts.ClusterParts.any_up.Given as goal

abbrev pub invariant-loop-n : goal.invariant-loop-n
invariant-loop-n l =
    list_any (is_up (cluster_of l.self)) (count_from l.n (l.nodes - l.n)) ≡ list_any (is_up (cluster_of l.self)) (all_nodes (cluster_of l.self))
