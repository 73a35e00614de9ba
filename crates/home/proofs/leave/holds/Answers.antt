use Rattle.std.proofs.Common.{◌∙◌, ap, sym, is_some}
use Rattle.tx_table.proofs.Serials.{lock_here, lock_next, lock_past}
use Rattle.home.proofs.leave.holds.Goals as goal

pub returns : goal.returns
returns c = ap is_some (sym (lock_past _ _ _ c.loop-lock-test.false) ∙ c.loop-lock.invariant)

pub returns-then-lock-page : goal.returns-then-lock-page
returns-then-lock-page c = ap is_some (sym (lock_here _ _ _ _ c.loop-lock-test.true c.if-lock-page.true) ∙ c.loop-lock.invariant)

pub loop-lock-preserved : goal.loop-lock-preserved
loop-lock-preserved c = lock_next _ _ _ _ c.loop-lock-test.true c.if-lock-page.false ∙ c.loop-lock.invariant
