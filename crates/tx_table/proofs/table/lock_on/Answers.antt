use Rattle.std.proofs.Common.{◌∙◌, sym}
use Rattle.tx_table.proofs.Serials.{lock_here, lock_next, lock_past}
use Rattle.tx_table.proofs.table.lock_on.Goals as goal

pub returns : goal.returns
returns c = sym (lock_past _ _ _ c.loop-lock-test.false) ∙ c.loop-lock.invariant

pub returns-then-lock-page : goal.returns-then-lock-page
returns-then-lock-page c = sym (lock_here _ _ _ _ c.loop-lock-test.true c.if-lock-page.true) ∙ c.loop-lock.invariant

pub loop-lock-preserved : goal.loop-lock-preserved
loop-lock-preserved c = lock_next _ _ _ _ c.loop-lock-test.true c.if-lock-page.false ∙ c.loop-lock.invariant
