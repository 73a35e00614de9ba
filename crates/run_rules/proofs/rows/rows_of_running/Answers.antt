-- Each row is computed.
use Rattle.std.proofs.Common.{refl}
use Rattle.run_rules.specs.Running.{worked, raised_from, run_from}
use Rattle.run_rules.proofs.rows.rows_of_running.Goals as goal

pub returns-clause-written : goal.returns-clause-written
unfolding worked raised_from run_from
returns-clause-written c = refl

pub returns-clause-differs : goal.returns-clause-differs
unfolding worked raised_from run_from
returns-clause-differs c = refl

pub returns-clause-two_scripts : goal.returns-clause-two_scripts
unfolding worked raised_from run_from
returns-clause-two_scripts c = refl

pub returns-clause-second_differs : goal.returns-clause-second_differs
unfolding worked raised_from run_from
returns-clause-second_differs c = refl
