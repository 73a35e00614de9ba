use Rattle.install_steps.proofs.Calling.{has_made, installs_make, reports_make}
use Rattle.install_steps.proofs.laws.installs_make_their_calls.Goals as goal

pub returns-clause-installs : goal.returns-clause-installs
returns-clause-installs c = λ d v n w tables none same pages. has_made _ _ (installs_make d v n w tables none same pages)

pub returns-clause-reports : goal.returns-clause-reports
returns-clause-reports c = λ d from r n w tables low same pages. has_made _ _ (reports_make d from r n w tables low same pages)
