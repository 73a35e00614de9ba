use Rattle.step_ends.proofs.Ends.{made_is_ran}
use Rattle.step_ends.proofs.laws.made_calls_carry_out.Goals as goal

pub returns : goal.returns
returns c = made_is_ran
