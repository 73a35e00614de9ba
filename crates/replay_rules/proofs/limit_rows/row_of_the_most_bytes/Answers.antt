use mathlib.Core.Path.{refl}
use Rattle.replay_rules.proofs.Opened.{all_rules}
use Rattle.replay_rules.proofs.limit_rows.row_of_the_most_bytes.Goals as goal

pub returns : goal.returns
unfolding all_rules
returns c = record { one_too_many = refl; whole = refl }
