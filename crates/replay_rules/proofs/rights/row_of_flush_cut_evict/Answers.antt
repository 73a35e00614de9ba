use mathlib.Core.Path.{refl}
use Rattle.replay_rules.proofs.Opened.{all_rules}
use Rattle.replay_rules.proofs.rights.row_of_flush_cut_evict.Goals as goal

pub returns : goal.returns
unfolding all_rules
returns c = refl
