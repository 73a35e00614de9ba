use Rattle.std.proofs.Common.{◌∙◌}
use Rattle.lock_entry.proofs.Marks.{revoke_step, revoke_end}
use Rattle.lock_entry.proofs.settle.revoke.Goals as goal

pub loop-right-preserved : goal.loop-right-preserved
loop-right-preserved c = revoke_step _ _ _ _ _ c.loop-right-test.true c.in_ok-revoke_one.ensures ∙ c.loop-right.invariant

pub returns : goal.returns
returns c = revoke_end _ _ _ c.loop-right-test.false ∙ c.loop-right.invariant
