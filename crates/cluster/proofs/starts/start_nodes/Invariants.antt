use Rattle.std.proofs.Common.{◌≡◌, ◌≤◌, ◌+◌, ◌++◌, Some, length, drop, map, vec_len, vec_capacity}
use Rattle.node_rules.specs.NodeState.{start_node}
use Rattle.cluster.proofs.starts.start_nodes.Given as goal

abbrev pub invariant-loop-n : goal.invariant-loop-n
invariant-loop-n l = record {
  made : l.nodes.items ++ map (λ n. Some (start_node l.config n l.epoch)) (drop l.n-index l.numbers) ≡ map (λ n. Some (start_node l.config n l.epoch)) l.numbers;
  room : vec_len l.nodes + length (drop l.n-index l.numbers) ≤ vec_capacity l.nodes;
}
