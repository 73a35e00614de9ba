use mathlib.Core.Path.{refl}
use Rattle.frame_rules.proofs.Opened.{frame_rules}
use Rattle.frame_rules.proofs.serving_rows.row_of_epochs.Goals as goal

pub returns : goal.returns
unfolding frame_rules
returns c = record { view_again = refl; born_before = refl; held = refl; held_again = refl; no_view = refl }
