use Rattle.std.proofs.Common.{◌∙◌, arith}
use Rattle.lock_entry.proofs.Lists.{register_step, register_end}
use Rattle.lock_entry.proofs.members.register.Goals as goal

pub loop-tx-preserved : goal.loop-tx-preserved
loop-tx-preserved c = record {
  room = omega arith;
  rest = register_step _ _ _ _ _ c.loop-tx-test.true c.register_one.ensures.items ∙ c.loop-tx.invariant.rest;
}

pub returns : goal.returns
returns c = register_end _ _ _ c.loop-tx-test.false ∙ c.loop-tx.invariant.rest
