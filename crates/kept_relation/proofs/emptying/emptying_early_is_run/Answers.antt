use Rattle.kept_relation.proofs.Running.{emptying_early_is_run_law}
use Rattle.kept_relation.proofs.emptying.emptying_early_is_run.Goals as goal

pub returns : goal.returns
returns c = emptying_early_is_run_law
