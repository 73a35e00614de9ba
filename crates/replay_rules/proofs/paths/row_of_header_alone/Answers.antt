use mathlib.Core.Path.{refl}
use Rattle.replay_rules.proofs.Opened.{all_rules}
use Rattle.replay_rules.proofs.paths.row_of_header_alone.Goals as goal

pub returns : goal.returns
unfolding all_rules
returns c = refl
