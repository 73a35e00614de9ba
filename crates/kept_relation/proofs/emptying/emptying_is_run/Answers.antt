use Rattle.kept_relation.proofs.Running.{emptying_is_run_law}
use Rattle.kept_relation.proofs.emptying.emptying_is_run.Goals as goal

pub returns : goal.returns
returns c = emptying_is_run_law
