use Rattle.std.proofs.Common.{◌≡◌, ◌++◌, drop}
use Rattle.rebuild.proofs.Listed.{locks_by, waits_by}
use Rattle.rebuild.proofs.reporting.lists_of.Given as goal

abbrev pub invariant-loop-tx : goal.invariant-loop-tx
invariant-loop-tx l = record {
  locks : l.lists.locks ++ locks_by l.scope.config l.scope.partition l.scope.all l.txs (drop l.tx-index l.tx-items) ≡ locks_by l.scope.config l.scope.partition l.scope.all l.txs l.tx-items;
  waits : l.lists.waits ++ waits_by l.scope.config l.scope.partition l.pool l.txs (drop l.tx-index l.tx-items) ≡ waits_by l.scope.config l.scope.partition l.pool l.txs l.tx-items;
}
