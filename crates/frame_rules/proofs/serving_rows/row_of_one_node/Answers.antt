use mathlib.Core.Path.{refl}
use Rattle.frame_rules.proofs.Opened.{frame_rules}
use Rattle.frame_rules.proofs.serving_rows.row_of_one_node.Goals as goal

pub returns : goal.returns
unfolding frame_rules
returns c = record { no_frame = refl; begins = refl; limit = refl; at_limit = refl; write = refl; no_view = refl }
