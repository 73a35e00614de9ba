use Rattle.step_ends.proofs.Ends.{failed_is_armed}
use Rattle.step_ends.proofs.laws.only_a_stop_fails.Goals as goal

pub returns : goal.returns
returns c = failed_is_armed
