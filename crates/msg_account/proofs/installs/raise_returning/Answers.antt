use Rattle.std.proofs.Common.{ap, ◌∙◌, set, true}
use Rattle.run_rules.specs.Words.{pick}
use Rattle.msg_account.proofs.RaiseLemmas.{some_step, some_done}
use Rattle.msg_account.proofs.installs.raise_returning.Goals as goal

pub loop-n-preserved : goal.loop-n-preserved
loop-n-preserved c =
    some_step c.args.before.now c.args.now.now _ _ _ _ c.loop-n-test.true (c.raise_if.ensures ∙ ap (λ k. pick k (set c.loop-n.up c.loop-n.n true) c.loop-n.up) c.is_returning.ensures)
    ∙ c.loop-n.invariant

pub returns : goal.returns
returns c = some_done c.args.before.now c.args.now.now _ _ _ _ c.loop-n-test.false c.loop-n.invariant
