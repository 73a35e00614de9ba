use Rattle.home.proofs.Stopping.{done_are_all, failed_are_stopped}
use Rattle.home.proofs.laws.calls_leave_what_the_rules_say.Goals as goal

pub returns-clause-done : goal.returns-clause-done
returns-clause-done c = done_are_all

pub returns-clause-failed : goal.returns-clause-failed
returns-clause-failed c = failed_are_stopped
