use mathlib.Core.Path.{refl}
use Rattle.replay_rules.proofs.Opened.{all_rules}
use Rattle.replay_rules.proofs.bad_inputs.row_of_bad_line_short.Goals as goal

pub returns : goal.returns
unfolding all_rules
returns c = refl
