use Rattle.step_ends.proofs.Ends.{failed_is_halted}
use Rattle.step_ends.proofs.laws.a_failed_call_halts.Goals as goal

pub returns : goal.returns
returns c = failed_is_halted
