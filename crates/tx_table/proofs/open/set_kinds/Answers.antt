use Rattle.std.proofs.Common.{◌≡◌, length, sym, arith}
use Rattle.tx_table.proofs.Locks.{kinds_none, kinds_step, kinds_end}
use Rattle.tx_table.proofs.open.set_kinds.Goals as goal

pub loop-lock-init : goal.loop-lock-init
loop-lock-init c = sym (kinds_none c.args.locks.now c.args.page c.args.kind)

pub loop-lock-preserved : goal.loop-lock-preserved
loop-lock-preserved c = kinds_step _ _ _ _ _ _ _ c.loop-lock.invariant c.loop-lock-test.true c.with_kind.ensures

pub returns-clause-kind : goal.returns-clause-kind
returns-clause-kind c =
    let whole : c.loop-lock.lock-index ≡ length c.args.locks.now = omega arith in
    kinds_end _ _ _ _ _ c.loop-lock.invariant whole
