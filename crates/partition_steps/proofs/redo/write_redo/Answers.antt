use Rattle.std.proofs.Common.{subst}
use Rattle.std.specs.Prelude.{IfSome}
use Rattle.install_plans.specs.Plans.{RedoesOwn}
use Rattle.partition_steps.proofs.redo.write_redo.Goals as goal

pub returns-in-Some-clause-others : goal.returns-in-Some-clause-others
returns-in-Some-clause-others g c = λ q r own apart.
    c.apply_redo.ensures.others q r (subst (λ o. IfSome o (RedoesOwn c.args.home.now.config q)) c.in-Some.is own) apart
