use Rattle.std.proofs.Common.{◌≡◌, length, map, drop}
use Rattle.node_rules.specs.OpenTxs.{locks_of, change_tx}
use Rattle.home.proofs.Turning.{page_held, kinds_at}
use Rattle.home.proofs.turns.turn_locks.Given as goal

abbrev pub invariant-loop-place : goal.invariant-loop-place
invariant-loop-place l = record {
  rest : change_tx (kinds_at l.config l.partition l.kind (drop l.place (map page_held (locks_of l.txs l.tx)))) l.txs l.tx ≡ change_tx (kinds_at l.config l.partition l.kind (map page_held (locks_of l.initial.txs l.tx))) l.initial.txs l.tx;
  pages : map page_held (locks_of l.txs l.tx) ≡ map page_held (locks_of l.initial.txs l.tx);
  end : l.place-end ≡ length (locks_of l.initial.txs l.tx);
}
