use Rattle.std.proofs.Common.{◌≡◌, ◌-◌, ◌&&◌, not}
use Rattle.std.specs.List.{list_any}
use Rattle.run_rules.specs.Views.{is_live, count_from}
use Rattle.cluster_rules.specs.Clusters.{is_up}
use Rattle.cluster_rules.specs.ClusterStep.{drops_up}
use Rattle.cluster_parts.specs.State.{cluster_of}
use Rattle.cluster.proofs.parts.ClusterParts.drops_up.Given as goal

abbrev pub invariant-loop-n : goal.invariant-loop-n
invariant-loop-n l = record {
  rest : list_any (λ n. is_up (cluster_of l.self) n && not (is_live l.view.live n)) (count_from l.n (l.nodes - l.n)) ≡ drops_up (cluster_of l.self) l.view;
  all : l.nodes ≡ l.self.config.nodes;
}
