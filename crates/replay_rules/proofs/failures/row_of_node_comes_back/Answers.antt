use mathlib.Core.Path.{refl}
use Rattle.replay_rules.proofs.Opened.{all_rules}
use Rattle.replay_rules.proofs.failures.row_of_node_comes_back.Goals as goal

pub returns : goal.returns
unfolding all_rules
returns c = refl
