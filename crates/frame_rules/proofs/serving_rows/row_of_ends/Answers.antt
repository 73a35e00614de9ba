use mathlib.Core.Path.{refl}
use Rattle.frame_rules.proofs.Opened.{frame_rules}
use Rattle.frame_rules.proofs.serving_rows.row_of_ends.Goals as goal

pub returns : goal.returns
unfolding frame_rules
returns c = record { second_is_bad = refl; cut = refl; of_itself = refl }
