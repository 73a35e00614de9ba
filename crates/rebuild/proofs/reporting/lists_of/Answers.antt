use Rattle.std.proofs.Common.{◌∙◌}
use Rattle.rebuild.proofs.Listed.{locks_by_end, waits_by_end}
use Rattle.rebuild.proofs.reporting.lists_of.Goals as goal

pub returns-clause-locks : goal.returns-clause-locks
returns-clause-locks c =
    let s = c.args.scope.now in
    locks_by_end s.config s.partition s.all c.args.txs.now c.as_slice-tx-items.result.now c.loop-tx.tx-index c.loop-tx.lists.locks c.loop-tx-test.false
    (c.as_slice-tx-items.ensures.value ∙ c.in_ok-ids.ensures.names) c.ids.ensures.numbered c.loop-tx.invariant.locks

pub returns-clause-waits : goal.returns-clause-waits
returns-clause-waits c =
    let s = c.args.scope.now in
    waits_by_end s.config s.partition c.args.pool.now c.args.txs.now c.as_slice-tx-items.result.now c.loop-tx.tx-index c.loop-tx.lists.waits c.loop-tx-test.false
    (c.as_slice-tx-items.ensures.value ∙ c.in_ok-ids.ensures.names) c.ids.ensures.numbered c.loop-tx.invariant.waits
