use mathlib.Core.Path.{refl}
use Rattle.frame_rules.proofs.Opened.{frame_rules}
use Rattle.frame_rules.proofs.frame_rows.row_of_written_frames.Goals as goal

pub returns : goal.returns
unfolding frame_rules
returns c = record { replies = refl; none = refl; other_node = refl; sent = refl; bad = refl; halted = refl; failed_read = refl; kept = refl; differs = refl; long = refl }
