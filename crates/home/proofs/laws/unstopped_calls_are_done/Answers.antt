use Rattle.home.proofs.Stopping.{unstopped_are_done}
use Rattle.home.proofs.laws.unstopped_calls_are_done.Goals as goal

pub returns : goal.returns
returns c = unstopped_are_done
