use Rattle.home.proofs.Stopping.{armed_are_done, armed_are_stopped}
use Rattle.home.proofs.laws.an_armed_stop_decides.Goals as goal

pub returns-clause-done : goal.returns-clause-done
returns-clause-done c = armed_are_done

pub returns-clause-stopped : goal.returns-clause-stopped
returns-clause-stopped c = armed_are_stopped
