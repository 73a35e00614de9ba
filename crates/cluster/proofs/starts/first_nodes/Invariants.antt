use Rattle.std.proofs.Common.{◌≡◌, ◌≤◌, ◌+◌, ◌-◌, ◌++◌, Some, map, vec_len, vec_capacity}
use Rattle.run_rules.specs.Views.{count_from}
use Rattle.node_rules.specs.NodeState.{first_node}
use Rattle.cluster.proofs.starts.first_nodes.Given as goal

abbrev pub invariant-loop-n : goal.invariant-loop-n
invariant-loop-n l = record {
  made : l.nodes.items ++ map (λ n. Some (first_node l.config n)) (count_from l.n (l.count - l.n)) ≡ map (λ n. Some (first_node l.config n)) (count_from 0 l.config.nodes);
  room : vec_len l.nodes + (l.count - l.n) ≤ vec_capacity l.nodes;
  all : l.count ≡ l.config.nodes;
}
