use mathlib.Core.Path.{refl}
use Rattle.frame_rules.proofs.Opened.{frame_rules}
use Rattle.frame_rules.proofs.serving_rows.row_of_malformed_frames.Goals as goal

pub returns : goal.returns
unfolding frame_rules
returns c = refl
