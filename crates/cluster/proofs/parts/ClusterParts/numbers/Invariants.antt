use Rattle.std.proofs.Common.{◌≡◌, ◌<◌, ◌≤◌, ◌+◌, ◌-◌, ◌++◌, vec_len, vec_capacity}
use Rattle.std.specs.List.{AllByRecursion}
use Rattle.run_rules.specs.Views.{count_from}
use Rattle.cluster_rules.specs.ClusterStep.{all_nodes}
use Rattle.cluster_parts.specs.State.{cluster_of}
use Rattle.cluster.proofs.parts.ClusterParts.numbers.Given as goal

abbrev pub invariant-loop-n : goal.invariant-loop-n
invariant-loop-n l = record {
  rest : l.numbers.items ++ count_from l.n (l.count - l.n) ≡ all_nodes (cluster_of l.self);
  room : vec_len l.numbers + (l.count - l.n) ≤ vec_capacity l.numbers;
  below : AllByRecursion (λ n. n < l.self.config.nodes) l.numbers.items;
  all : l.count ≡ l.self.config.nodes;
}
