use Rattle.std.proofs.Common.{◌≡◌, ◌≤◌, ◌+◌, ◌-◌, ◌/◌}
use Rattle.home.proofs.Cleaning.{cleaned_at, visits}
use Rattle.home.proofs.turns.clean_pages.Given as goal

abbrev pub invariant-loop-turn : goal.invariant-loop-turn
invariant-loop-turn l = record {
  rest : cleaned_at l.config l.partition (visits l.partition l.config.nodes l.turn (l.turn-end - l.turn)) l.pool ≡ cleaned_at l.config l.partition (visits l.partition l.config.nodes 0 (l.config.pages / l.config.nodes + 1)) l.initial.pool;
  end : l.turn-end ≡ l.config.pages / l.config.nodes + 1;
  nodes : l.nodes ≡ l.config.nodes;
  some : 1 ≤ l.config.nodes;
  small : l.config.pages ≤ 65536;
}
