use mathlib.Core.Path.{refl}
use Rattle.replay_rules.proofs.Opened.{all_rules}
use Rattle.replay_rules.proofs.summaries.row_of_totals_of_stop_in_force_j36.Goals as goal

pub returns : goal.returns
unfolding all_rules
returns c = refl
