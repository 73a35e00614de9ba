use Rattle.std.proofs.Common.{◌∙◌}
use Rattle.msg_account.proofs.RaiseLemmas.{all_step, all_done}
use Rattle.msg_account.proofs.installs.raise_all.Goals as goal

pub loop-n-preserved : goal.loop-n-preserved
loop-n-preserved c = all_step _ _ _ _ c.loop-n-test.true c.raise_if.ensures ∙ c.loop-n.invariant

pub returns : goal.returns
returns c = all_done _ _ _ _ c.loop-n-test.false c.loop-n.invariant
