use Rattle.std.proofs.Common.{◌≡◌, ◌<◌, ◌≤◌, ◌+◌, ◌-◌, ◌++◌, vec_len, vec_capacity}
use Rattle.std.specs.List.{AllByRecursion}
use Rattle.run_rules.specs.Views.{count_from}
use Rattle.cluster_rules.specs.ClusterStep.{returning}
use Rattle.cluster.proofs.parts.ClusterParts.returning.Given as goal

abbrev pub invariant-loop-n : goal.invariant-loop-n
invariant-loop-n l = record {
  rest : l.numbers.items ++ returning l.before l.view (count_from l.n (l.nodes - l.n)) ≡ returning l.before l.view (count_from 0 l.nodes);
  room : vec_len l.numbers + (l.nodes - l.n) ≤ vec_capacity l.numbers;
  below : AllByRecursion (λ n. n < l.self.config.nodes) l.numbers.items;
  all : l.nodes ≡ l.self.config.nodes;
}
