use Rattle.std.proofs.Common.{◌≡◌, ◌<◌, ◌-◌, ◌&&◌, not, ◌++◌}
use Rattle.std.specs.List.{All, filter}
use Rattle.run_rules.specs.Views.{is_live, count_from}
use Rattle.node_rules.specs.InstallRule.{live_before, lost_nodes}
use Rattle.install_plans.proofs.newer.lost_nodes.Given as goal

abbrev pub invariant-loop-node : goal.invariant-loop-node
invariant-loop-node l = record {
  rest : l.lost.items ++ filter (λ n. live_before l.before n && not (is_live l.view.live n)) (count_from l.node (l.node-end - l.node)) ≡ lost_nodes l.before l.view;
  below : All (λ n. n < l.by.config.nodes) l.lost.items;
  end : l.node-end ≡ l.by.config.nodes;
}
