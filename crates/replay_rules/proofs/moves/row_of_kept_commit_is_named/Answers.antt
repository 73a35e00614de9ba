use mathlib.Core.Path.{refl}
use Rattle.replay_rules.proofs.Opened.{all_rules}
use Rattle.replay_rules.proofs.moves.row_of_kept_commit_is_named.Goals as goal

pub returns : goal.returns
unfolding all_rules
returns c = refl
