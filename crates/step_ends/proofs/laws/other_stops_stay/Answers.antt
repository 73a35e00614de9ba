use Rattle.step_ends.proofs.Armed.{others_are_left}
use Rattle.step_ends.proofs.laws.other_stops_stay.Goals as goal

pub returns : goal.returns
returns c = others_are_left
